pub mod DeclBack
pub mod RoundTrip
pub mod RowsBack
pub mod TextBack
pub mod Pair
