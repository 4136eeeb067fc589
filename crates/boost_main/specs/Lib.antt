pub mod Serving
pub mod Talking
