pub mod RisingMembers
pub mod ReadingDocs
