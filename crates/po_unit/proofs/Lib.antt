mod Lists
pub mod DeclLemmas
pub mod FirstNumbersLemmas
pub mod NumberingLemmas
