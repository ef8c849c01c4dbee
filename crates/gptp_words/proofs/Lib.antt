pub mod DigitsLemmas
