pub mod GoingOn
pub mod ReportsGoOn
pub mod RunsGoOn
pub mod StopsGoOn
