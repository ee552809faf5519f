-- Lists and tables: what stands where, what is there once, and what links lead to.
pub mod Distinct
pub mod EachThen
pub mod FileByFile
pub mod LinksBack
pub mod Lists
pub mod Members
pub mod NamesStand
pub mod Numbered
pub mod Options
pub mod Placed
pub mod Put
pub mod Rising
pub mod Sharing
