-- The words of docs/SCRIPTS.md for each reason.
use Rattle.std.specs.Prelude.{ℕ, List, codes}
use Rattle.program_script.specs.declared.reason.Reason.{Reason}
use Rattle.program_script.specs.declared.reason.Reason.TheVariants.{NoSuchWord, NumberMissing, NotANumber, NumberTooLarge, TextMissing, NotAText, TextTooLong, SomethingFollows}

abbrev pub words_of : Reason → List ℕ
words_of NoSuchWord = codes "no such word"
words_of NumberMissing = codes "a number is missing"
words_of NotANumber = codes "not a number"
words_of NumberTooLarge = codes "the number is too large"
words_of TextMissing = codes "a text is missing"
words_of NotAText = codes "not a text"
words_of TextTooLong = codes "the text is longer than 64 bytes"
words_of SomethingFollows = codes "something follows"
