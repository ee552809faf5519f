pub mod Alone
pub mod Bits
pub mod Own
pub mod OwnQuoted
pub mod OwnSigns
pub mod Quoted
pub mod Signs
