pub mod KeptLoop
pub mod KeptStand
pub mod LaterViews
