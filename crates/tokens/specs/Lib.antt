pub mod Sets
pub mod Tables
pub mod Rows
pub mod Lists
