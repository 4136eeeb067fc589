pub mod Trees
pub mod Rising
pub mod Tables
pub mod Amounts
pub mod Sifts
pub mod Holders
pub mod Items
pub mod Sizes
