-- Refusals in an order: the order is the text of a definition. Assumes nothing.
use Rattle.std.specs.Prelude.{codes, decimal, ◌≡◌, ◌<◌, List, ◌++◌, ℕ, zero, suc, Bool, cond, Result, Ok, Err}
use Rattle.words.specs.declared.Reason.{Reason}
use Rattle.words.specs.declared.Reason.TheVariants.{WrongSize, WrongSum, WrongOrder, WrongNumber, WrongCount, WrongEntry, WrongRule, WrongEdge, UnknownKind, TooShort, WrongCell, TooHigh, TooLarge, NoPath, WrongArgument}
use Rattle.words.specs.declared.Refusal.{Refusal as RefusalFor}

infixr 20 ◌and_then◌
-- the number of a reason
abbrev pub number_of : Reason → ℕ
number_of WrongSize = 1
number_of WrongSum = 2
number_of WrongOrder = 3
number_of WrongNumber = 4
number_of WrongCount = 5
number_of WrongEntry = 6
number_of WrongRule = 7
number_of WrongEdge = 8
number_of UnknownKind = 9
number_of TooShort = 10
number_of WrongCell = 11
number_of TooHigh = 12
number_of TooLarge = 13
number_of NoPath = 14
number_of WrongArgument = 15

-- a refusal for one of these reasons
abbrev pub Refusal : Type 0
Refusal = RefusalFor Reason

-- what a refusal prints
abbrev pub text_of : Refusal → List ℕ
text_of r = codes "refused " ++ (decimal (number_of r.reason) ++ (codes " at " ++ decimal r.place))

-- what a check answers that refuses for an R
abbrev pub CheckFor : Type 0 → Type 0
CheckFor R = Result (Unit {0}) (RefusalFor R)

-- what a check answers
abbrev pub Check : Type 0
Check = CheckFor Reason

abbrev pub Good : {R : Type 0} → CheckFor R
Good = Ok tt

-- refusal k at place p
abbrev pub refused : {R : Type 0} → R → ℕ → CheckFor R
refused k p = Err (record { reason = k; place = p })

-- refusal k at place p, unless b holds
unfoldable pub must : {R : Type 0} → Bool → R → ℕ → CheckFor R
must b k p = cond b Good (refused k p)

-- the first check's refusal, or else the second's
unfoldable pub ◌and_then◌ : {R : Type 0} → CheckFor R → CheckFor R → CheckFor R
Ok _ and_then y = y
Err r and_then y = Err r

-- the checks c 0, .., c (n - 1) in this order: of several refusals, the one at the lowest index
unfoldable pub scan : {R : Type 0} → (ℕ → CheckFor R) → ℕ → CheckFor R
scan c zero = Good
scan c (suc n) = scan c n and_then c n

-- r is what the scan answers, for each c that the calls of a closure answer as
abbrev pub ScanIs : (ℕ → Check → Type 0) → ℕ → Check → Type 0
ScanIs post n r = (c : ℕ → Check) → ((k : ℕ) (q : Check) → k < n → post k q → q ≡ c k) → r ≡ scan c n
