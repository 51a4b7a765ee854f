pub mod Forms
pub mod Numbers
pub mod Orders
pub mod Slots
pub mod Signs
pub mod Fitting
pub mod Misfits
pub mod FileValues
