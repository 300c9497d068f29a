-- Laws of numbers in decimal. Assumes nothing.
use mathlib.Core.Path.{◌≡◌, sym, ap}
use mathlib.Core.List.{[], ◌∷◌, ◌++◌}
use Prim.Native.Nat.{ℕ, zero, suc, ◌+◌, ◌/◌, ◌%◌, ◌^◌, ◌≤◌, ◌<◌}
use native.Mathlib.Nat.{pow-suc}
use native.Mathlib.Omega.{arith}
use lib.Dec.{ltb}
use lib.ListN.{length, length-append}
use borrow.Author.Tests.{lt-ltb, le-ltb}
use borrow.Table.Steps.{cases}
use Rattle.text.specs.Text.{decimal_in, decimal}

pub digits_few : (f x : ℕ) → length (decimal_in f x) ≤ f
unfolding decimal_in
digits_few zero x = omega arith
digits_few (suc f) x =
    cases (ltb x 10)
    (λ t. rw t (omega arith))
    (λ e. rw (e, length-append) (omega (arith, digits_few f (x / 10))))

-- and no more than its size asks
pub digits_fewer : (f k x : ℕ) → x < 10 ^ suc k → length (decimal_in f x) ≤ suc k
unfolding decimal_in
digits_fewer zero k x h = omega arith
digits_fewer (suc f) zero x h = let l : x < 10 = h in rw (lt-ltb x 10 l) (omega arith)
digits_fewer (suc f) (suc k) x h =
    cases (ltb x 10)
    (λ t. rw t (omega arith))
    (λ e. let l : x / 10 < 10 ^ suc k = omega (arith, rw pow-suc at h) in rw (e, length-append) (omega (arith, digits_fewer f k (x / 10) l)))

-- one place more than a number needs changes nothing
more : (f x : ℕ) → x < 10 ^ suc f → decimal_in (suc (suc f)) x ≡ decimal_in (suc f) x
unfolding decimal_in
more zero x h = let l : x < 10 = h in rw (lt-ltb x 10 l)
more (suc f) x h =
    cases (ltb x 10)
    (λ t. rw t)
    (λ e. let l : x / 10 < 10 ^ suc f = omega (arith, rw pow-suc at h) in rw e (ap (λ w. w ++ ((48 + x % 10) ∷ [])) (more f (x / 10) l)))

pub decimal_one : (x : ℕ) → x < 10 → decimal x ≡ (48 + x % 10) ∷ []
unfolding decimal_in
decimal_one x h =
    let e : x % 10 ≡ x = omega arith in
    rw (lt-ltb x 10 h, e)

pub decimal_more : (x : ℕ) → 10 ≤ x → x < 18446744073709551616 → decimal x ≡ decimal (x / 10) ++ ((48 + x % 10) ∷ [])
unfolding decimal_in
decimal_more x h l = rw (le-ltb x 10 h) (ap (λ w. w ++ ((48 + x % 10) ∷ [])) (sym (more 18 (x / 10) (omega arith))))
