-- What the words of the storage port mean: their fields, said once, in document 004's terms.
pub mod Fields
pub mod Words
pub mod ReadBack
