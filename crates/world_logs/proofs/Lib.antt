pub mod LinesTold
pub mod HeadsTold
