pub mod Laws
pub mod OneWordLaws
