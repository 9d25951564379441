-- The number of each reason on which a call is refused, as a host knows it.
-- From the list of the numbers that turn a call away. Assumes nothing: this is a definition.
use Rattle.std.specs.Prelude.{ℕ}
use Rattle.refusals.specs.declared.refusal.Reason.{Reason}
use Rattle.refusals.specs.declared.refusal.Reason.TheVariants.{LineMissing, CountWrong, NameImproper, NameTaken, LengthWrong, ByteOther, LetterBeyond, NotOneExpression, BytesFollow, SetBeyond, BytesFewer, ListOdd, NoOrder, NoLog, InitUnmet}

abbrev pub number_of : Reason → ℕ
number_of LineMissing = 1
number_of CountWrong = 2
number_of NameImproper = 3
number_of NameTaken = 4
number_of LengthWrong = 5
number_of ByteOther = 6
number_of LetterBeyond = 7
number_of NotOneExpression = 8
number_of BytesFollow = 9
number_of SetBeyond = 10
number_of BytesFewer = 11
number_of ListOdd = 12
number_of NoOrder = 13
number_of NoLog = 14
number_of InitUnmet = 15
