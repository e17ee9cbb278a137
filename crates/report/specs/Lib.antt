pub mod Buffer
pub mod Text
pub mod Pages
