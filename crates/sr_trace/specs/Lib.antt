pub mod Asking
pub mod Drawing
pub mod Lines
pub mod Pictures
pub mod Shown
pub mod Words
