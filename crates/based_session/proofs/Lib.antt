pub mod KeptLists
pub mod StepsOver
pub mod BaseLaws
