pub mod Arranged
pub mod Causes
pub mod Numbers
pub mod OneCause
pub mod Runs
pub mod UnderWay
