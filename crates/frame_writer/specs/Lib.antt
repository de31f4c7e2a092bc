pub mod Written
pub mod Unfinished
pub mod Writer
pub mod ReadBack
pub mod Rows
pub mod Fronts
pub mod Sure
