-- What each call accepts, and when each refusal of its own is given. Assumes nothing.
use mathlib.Core.Path.{◌≡◌, refl, sym, ap, ◌∙◌}
use mathlib.Core.List.{List}
use mathlib.Core.Bool.{Bool, true, false, true≢false}
use mathlib.Core.Logic.Iff
use mathlib.Core.Logic.{◌↔◌, ◌≢◌, ◌⊎◌, inl, inr, ⊎_elim}
use Prim.Native.Nat.{ℕ, ◌/◌, ◌%◌, ◌≤◌, ◌<◌}
use native.Mathlib.Omega.{arith}
use lib.ListN.{length}
use lib.Dec.{ltb, leb}
use borrow.Author.Tests.{ltb-true, ltb-false, lt-ltb, le-ltb, leb-true, leb-false, le-leb, lt-leb}
use borrow.Table.Steps.{cases}
use Rattle.key.specs.Keys.{EMPTY}
use Rattle.words.specs.declared.Reason.{Reason}
use Rattle.words.specs.Refusals.{Refusal, number_of, refused, must, ◌and_then◌, Check, Good}
use Rattle.words.proofs.Refusals.{differs, must_good, must_given, must_next, three_given, and_good, and_assoc, Only, only_must, only_and, only_scan, and_first, and_past, and_second, LowestWrong, scan_must}
use Rattle.words.specs.declared.Reason.TheVariants.{TooShort, WrongCell, NoPath, WrongArgument}
use Rattle.meaning.specs.Table.{at, cell, cells}
use Rattle.meaning.specs.Net.{Net}
use Rattle.meaning.specs.Lengths.{HELD, RightCell, RightTable}
use Rattle.meaning.specs.Computed.{right_cell}
use Rattle.meaning.proofs.Computed.{right_true, true_right}
use Rattle.numbers.specs.declared.Numbers.{Numbers}
use Rattle.numbers.specs.Numbers.{cells_of, room_check}
use Rattle.lists.specs.Lists.{net, lists_check}
use Rattle.numbers.proofs.Right.{room_good}
use Rattle.numbers.proofs.Given.{room_given}
use Rattle.lists.proofs.Given.{given_only, lists_other}
use Rattle.witness.specs.Answers.{cell_check, table_check, check_answer, arguments_check, path_check, window_check, witness_check}
use Rattle.witness.proofs.Accepts.{table_right, right_table, asked}

-- cell number c is right
abbrev pub RightAt : Net → List ℕ → List ℕ → ℕ → Type 0
RightAt g t ls c = RightCell g t ls (c / g.nodes / g.nodes) (c / g.nodes % g.nodes) (c % g.nodes)

-- c is the lowest cell that is not right, in a table and lengths long enough
pub record LowestFault (g : Net) (t ls : List ℕ) (c : ℕ) : Type 0 where
  pub long : cells g ≤ length t
  pub lengths : cells g ≤ length ls
  pub inside : c < cells g
  pub fault : RightAt g t ls c → ⊥
  pub lower : (k : ℕ) → k < c → RightAt g t ls k

-- the recorded length exceeds the words lent for the path, or is 4,294,967,295, which no length word exceeds
abbrev pub NoRoom : ℕ → ℕ → Type 0
NoRoom words l = (words < l) ⊎ (HELD ≤ l)

pub room_or_not : (words l : ℕ) → NoRoom words l ⊎ ((l < HELD) × (l ≤ words))
room_or_not words l =
    cases (ltb l HELD)
    (λ h. cases (leb l words) (λ b. inr (ltb-true _ _ h, leb-true _ _ b)) (λ b. inl (inl (leb-false _ _ b))))
    (λ h. inl (inr (ltb-false _ _ h)))

under : (x most : ℕ) → (ltb x most ≡ true) ↔ (x < most)
under x most = (λ e. ltb-true _ _ e, λ h. lt-ltb _ _ h)

over : (x most : ℕ) → (ltb x most ≡ false) ↔ (most ≤ x)
over x most = (λ e. ltb-false _ _ e, λ h. le-ltb _ _ h)

module _ (numbers : Numbers) (rules edges t ls : List ℕ) where
  abbrev g : Net
  g = net numbers rules edges

  -- the table check accepts exactly the right tables
  pub check_good : (check_answer numbers rules edges t ls ≡ Good) ↔ ((lists_check numbers rules edges ≡ Good) × RightTable g t ls)
  unfolding check_answer
  check_good = (
    λ e. let b = (and_good _ _).0 e in (b.0, table_right numbers rules edges t ls b.1),
    λ h. (and_good _ _).1 (h.0, right_table numbers rules edges t ls h.1),
  )

  abbrev right : ℕ → Bool
  right c = right_cell numbers.nodes rules edges t ls (c / numbers.nodes / numbers.nodes) (c / numbers.nodes % numbers.nodes) (c % numbers.nodes)

  told : (c : ℕ) → right c ≡ true → RightAt g t ls c
  told c = right_true numbers.nodes numbers.nonterminals rules edges t ls _ _ _

  tell : (c : ℕ) → RightAt g t ls c → right c ≡ true
  tell c = true_right numbers.nodes numbers.nonterminals rules edges t ls _ _ _

  lowest : (c : ℕ) → cells g ≤ length t → cells g ≤ length ls → LowestWrong right (cells_of numbers) c → LowestFault g t ls c
  lowest c h l w = record {
    long = h;
    lengths = l;
    inside = w.below;
    fault = λ r. true≢false (sym (tell c r) ∙ w.wrong);
    lower = λ k b. told k (w.rest k b);
  }

  wrong : (c : ℕ) → LowestFault g t ls c → LowestWrong right (cells_of numbers) c
  wrong c f = record {
    below = f.inside;
    wrong = cases (right c) (λ e. absurd (f.fault (told c e))) (λ e. e);
    rest = λ k b. tell k (f.lower k b);
  }

  -- the table check's refusals: table or lengths too short, and a wrong cell
  table_only : (P : Refusal → Type 0) → P (record { reason = TooShort; place = 0 }) → P (record { reason = TooShort; place = 1 })
      → ((c : ℕ) → P (record { reason = WrongCell; place = c })) → Only P (table_check numbers rules edges t ls)
  unfolding table_check room_check cell_check
  table_only P x y z =
      only_and P _ _ (only_must P _ TooShort 0 x)
      (λ _. only_and P _ _ (only_must P _ TooShort 1 y) (λ _. only_scan P _ _ (λ c _. only_must P _ WrongCell c (z c))))

  -- too short exactly if the table is, or else the lengths
  table_ten : (p : ℕ) → (table_check numbers rules edges t ls ≡ refused TooShort p)
      ↔ (((length t < cells g) × (p ≡ 0)) ⊎ ((cells g ≤ length t) × (length ls < cells g) × (p ≡ 1)))
  unfolding table_check room_check cell_check
  table_ten p =
      let other : WrongCell ≢ TooShort = differs (omega arith) in
      let x = must_next (leb (cells_of numbers) (length t)) TooShort 0 _ p in
      let y = and_first (room_check 1 (cells_of numbers) (length ls)) _ TooShort p (only_scan _ _ (cells_of numbers) (λ c _. only_must _ _ WrongCell c other)) in
      let z = room_given 1 (cells_of numbers) (length ls) p in (
        λ e. ⊎_elim
            (λ h. inl (leb-false _ _ h.0, h.1))
            (λ h. let b = z.0 (y.0 h.1) in inr (leb-true _ _ h.0, b.0, b.1))
            (x.0 e),
        λ h. x.1 (⊎_elim (λ b. inl (lt-leb _ _ b.0, b.1)) (λ b. inr (le-leb _ _ b.0, y.1 (z.1 (b.1, b.2)))) h),
      )

  -- a wrong cell exactly at the lowest cell that is not right
  table_eleven : (c : ℕ) → (table_check numbers rules edges t ls ≡ refused WrongCell c) ↔ LowestFault g t ls c
  unfolding table_check room_check cell_check
  table_eleven c =
      let other : TooShort ≢ WrongCell = differs (omega arith) in
      let x = and_second (room_check 0 (cells_of numbers) (length t)) _ WrongCell c (only_must _ _ _ _ other) in
      let y = and_second (room_check 1 (cells_of numbers) (length ls)) _ WrongCell c (only_must _ _ _ _ other) in
      let z = scan_must right WrongCell (cells_of numbers) c in (
        λ e.
            let a = x.0 e in
            let b = y.0 a.1 in
            lowest c ((room_good 0 _ _).0 a.0) ((room_good 1 _ _).0 b.0) (z.0 b.1),
        λ f. x.1 ((room_good 0 _ _).1 f.long, y.1 ((room_good 1 _ _).1 f.lengths, z.1 (wrong c f))),
      )

  pub check_ten : (p : ℕ) → (check_answer numbers rules edges t ls ≡ refused TooShort p)
      ↔ ((lists_check numbers rules edges ≡ Good)
      × (((length t < cells g) × (p ≡ 0)) ⊎ ((cells g ≤ length t) × (length ls < cells g) × (p ≡ 1))))
  unfolding check_answer
  check_ten p = Iff.trans (and_second _ _ TooShort p (lists_other numbers rules edges TooShort (omega arith))) (Iff.and Iff.rfl (table_ten p))

  pub check_eleven : (c : ℕ) → (check_answer numbers rules edges t ls ≡ refused WrongCell c) ↔ ((lists_check numbers rules edges ≡ Good) × LowestFault g t ls c)
  unfolding check_answer
  check_eleven c = Iff.trans (and_second _ _ WrongCell c (lists_other numbers rules edges WrongCell (omega arith))) (Iff.and Iff.rfl (table_eleven c))

  -- what a witness asks before it looks at its cell
  pub record Ask (a i j : ℕ) : Type 0 where
    pub lists : lists_check numbers rules edges ≡ Good
    pub head : a < numbers.nonterminals
    pub from : i < numbers.nodes
    pub to : j < numbers.nodes
    pub right : RightTable g t ls

  module _ (a i j : ℕ) where
    abbrev n : ℕ
    n = numbers.nodes

    -- the checks before the cell's
    abbrev before : Check
    before = lists_check numbers rules edges and_then arguments_check numbers a i j and_then table_check numbers rules edges t ls

    -- pass exactly if that holds
    asks : (before ≡ Good) ↔ Ask a i j
    unfolding arguments_check
    asks = (
      λ e.
          let b = (and_good _ _).0 e in
          let c = (and_good _ _).0 b.1 in
          let r = asked numbers rules edges a i j ((and_good _ _).1 (b.0, c.0)) in
          record { lists = b.0; head = r.head; from = r.from; to = r.to; right = table_right numbers rules edges t ls c.1 },
      λ q.
          let x = (must_good (ltb a numbers.nonterminals) WrongArgument 0).1 (lt-ltb _ _ q.head) in
          let y = (must_good (ltb i n) WrongArgument 1).1 (lt-ltb _ _ q.from) in
          let z = (must_good (ltb j n) WrongArgument 2).1 (lt-ltb _ _ q.to) in
          (and_good _ _).1 (q.lists, (and_good _ _).1 ((and_good _ _).1 (x, (and_good _ _).1 (y, z)), right_table numbers rules edges t ls q.right)),
    )

    -- and have refusals other than an empty cell, or no room for the path
    others : Only (λ r. (r.reason ≢ NoPath) × (r.reason ≡ TooShort → r.place < 2)) before
    unfolding arguments_check
    others =
        only_and _ _ _ (λ r e. let h = (given_only numbers rules edges r e).0 in (λ q. omega (arith, ap number_of q), λ q. omega (arith, ap number_of q)))
        (λ _. only_and _ (arguments_check numbers a i j) _
        (only_and _ _ _ (only_must _ _ WrongArgument 0 (own_argument 0))
        (λ _. only_and _ _ _ (only_must _ _ WrongArgument 1 (own_argument 1)) (λ _. only_must _ _ WrongArgument 2 (own_argument 2))))
        (λ _. table_only _ (differs (omega arith), λ q. omega arith) (differs (omega arith), λ q. omega arith) (λ c. (differs (omega arith), λ q. absurd (omega (arith, ap number_of q))))))
      where
        own_argument : (p : ℕ) → (WrongArgument ≢ NoPath) × (WrongArgument ≡ TooShort → p < 2)
        own_argument p = (differs (omega arith), λ q. absurd (omega (arith, ap number_of q)))

    window_parts : window_check numbers rules edges a i j t ls ≡ before and_then path_check n a i j t ls
    unfolding window_check
    window_parts = sym (simp and_assoc)

    path_good : (path_check n a i j t ls ≡ Good) ↔ ((at n t a i j < EMPTY) × (at n ls a i j < HELD))
    unfolding path_check
    path_good = (
      λ e. let b = (and_good _ _).0 e in (ltb-true _ _ ((must_good _ _ _).0 b.0), ltb-true _ _ ((must_good _ _ _).0 b.1)),
      λ h. (and_good _ _).1 ((must_good _ _ _).1 (lt-ltb _ _ h.0), (must_good _ _ _).1 (lt-ltb _ _ h.1)),
    )

    -- a window is given exactly for a filled cell whose length is one we hold
    pub window_good : (window_check numbers rules edges a i j t ls ≡ Good) ↔ (Ask a i j × (at n t a i j < EMPTY) × (at n ls a i j < HELD))
    window_good = (
      λ e. let b = (and_good before _).0 (rw window_parts at e) in let p = path_good.0 b.1 in (asks.0 b.0, p.0, p.1),
      λ h. window_parts ∙ (and_good before _).1 (asks.1 h.0, path_good.1 (h.1, h.2)),
    )

    -- a witness exactly where the path has room besides
    pub witness_good : (words : ℕ) → (witness_check numbers rules edges a i j t ls words ≡ Good)
        ↔ (Ask a i j × (at n t a i j < EMPTY) × (at n ls a i j < HELD) × (at n ls a i j ≤ words))
    unfolding witness_check
    witness_good words = (
      λ e. let b = (and_good _ _).0 e in let w = window_good.0 b.0 in (w.0, w.1, w.2, (room_good _ _ _).0 b.1),
      λ h. (and_good _ _).1 (window_good.1 (h.0, h.1, h.2), (room_good _ _ _).1 h.3),
    )

    -- a wrong argument exactly if the lists are right, at the first argument out of range
    pub witness_fifteen : (words p : ℕ) → (witness_check numbers rules edges a i j t ls words ≡ refused WrongArgument p)
        ↔ ((lists_check numbers rules edges ≡ Good)
        × (((numbers.nonterminals ≤ a) × (p ≡ 0))
        ⊎ ((a < numbers.nonterminals) × (n ≤ i) × (p ≡ 1))
        ⊎ ((a < numbers.nonterminals) × (i < n) × (n ≤ j) × (p ≡ 2))))
    unfolding witness_check window_check arguments_check path_check room_check
    witness_fifteen words p =
        Iff.trans
        (and_first (window_check numbers rules edges a i j t ls) _ WrongArgument p (only_must _ _ TooShort 2 (differs (omega arith))))
        (Iff.trans
        (and_second (lists_check numbers rules edges) _ WrongArgument p (lists_other numbers rules edges WrongArgument (omega arith)))
        (Iff.and Iff.rfl
        (Iff.trans
        (and_first (arguments_check numbers a i j) _ WrongArgument p
        (only_and _ _ _ (table_only _ (differs (omega arith)) (differs (omega arith)) (λ c. differs (omega arith)))
        (λ _. only_and _ _ _ (only_must _ _ NoPath _ (differs (omega arith))) (λ _. only_must _ _ TooShort 2 (differs (omega arith))))))
        (three_given WrongArgument 0 1 2 p (under a numbers.nonterminals) (over a numbers.nonterminals) (under i n) (over i n) (over j n)))))

    -- what is left once a witness may look at its cell
    abbrev filled : Check
    filled = must (ltb (at n t a i j) EMPTY) NoPath (cell n a i j)

    abbrev held : Check
    held = must (ltb (at n ls a i j) HELD) TooShort 2

    abbrev room : ℕ → Check
    room words = must (leb (at n ls a i j) words) TooShort 2

    -- a refusal that the checks before do not have is given exactly if they pass and what is left gives it
    own : (words : ℕ) (k : Reason) (p : ℕ) → (before ≡ refused k p → ⊥)
        → (witness_check numbers rules edges a i j t ls words ≡ refused k p) ↔ (Ask a i j × (filled and_then held and_then room words ≡ refused k p))
    unfolding witness_check path_check room_check
    own words k p none =
        rw (window_parts, and_assoc before (filled and_then held) (room words), and_assoc filled held (room words))
        (Iff.trans (and_past before _ k p none) (Iff.and asks Iff.rfl))

    no_key : RightCell g t ls a i j → EMPTY ≤ at n t a i j → at n t a i j ≡ EMPTY
    no_key (RightCell.empty e _) l = e
    no_key (RightCell.leaf _ _ h _ _ _ _) l = absurd (omega arith)
    no_key (RightCell.pair _ _ _ h _ _ _ _ _ _ _ _) l = absurd (omega arith)

    -- no path exactly if all that holds and the cell is empty
    pub witness_fourteen : (words c : ℕ) → (witness_check numbers rules edges a i j t ls words ≡ refused NoPath c)
        ↔ (Ask a i j × (at n t a i j ≡ EMPTY) × (c ≡ cell n a i j))
    witness_fourteen words c =
        let x = own words NoPath c (λ e. (others _ e).0 refl) in
        let y = and_first filled (held and_then room words) NoPath c
        (only_and _ held (room words) (only_must _ _ TooShort 2 (differs (omega arith))) (λ _. only_must _ _ TooShort 2 (differs (omega arith)))) in
        let z = must_given (ltb (at n t a i j) EMPTY) NoPath (cell n a i j) c in (
          λ e.
              let h = x.0 e in
              let q = h.0 in
              let b = z.0 (y.0 h.1) in
              (q, no_key (q.right.cell a i j q.head q.from q.to) (ltb-false _ _ b.0), b.1),
          λ h. x.1 (h.0, y.1 (z.1 (le-ltb (at n t a i j) EMPTY (omega (arith, h.1)), h.2))),
        )

    -- too short for the path exactly if all that holds, the cell is filled and there is no room for it
    pub witness_ten : (words : ℕ) → (witness_check numbers rules edges a i j t ls words ≡ refused TooShort 2)
        ↔ (Ask a i j × (at n t a i j < EMPTY) × NoRoom words (at n ls a i j))
    witness_ten words =
        let x = own words TooShort 2 (λ e. omega (arith, (others _ e).1 refl)) in
        let y = and_second filled (held and_then room words) TooShort 2 (only_must _ _ NoPath _ (differs (omega arith))) in
        let z = must_next (ltb (at n ls a i j) HELD) TooShort 2 (room words) 2 in
        let w = must_given (leb (at n ls a i j) words) TooShort 2 2 in (
          λ e.
              let h = x.0 e in
              let b = y.0 h.1 in (
                h.0,
                ltb-true _ _ ((must_good _ _ _).0 b.0),
                ⊎_elim (λ f. inr (ltb-false _ _ f.0)) (λ f. inl (leb-false _ _ (w.0 f.1).0)) (z.0 b.1),
              ),
          λ h. x.1 (
            h.0,
            y.1 (
              (must_good _ _ _).1 (lt-ltb _ _ h.1),
              z.1 (cases (ltb (at n ls a i j) HELD)
                  (λ b. inr (b, w.1 (⊎_elim (lt-leb _ _) (λ l. absurd (omega (arith, ltb-true (at n ls a i j) HELD b))) h.2, refl)))
                  (λ b. inl (b, refl))),
            ),
          ),
        )
