pub mod Laws
pub mod MergeLaws
pub mod Numbers
pub mod Tags
pub mod Totals
pub mod Trees
