-- Tests, and lists searched by a test: what the other definitions are written in.
use Rattle.std.specs.Prelude.{ℕ, zero, suc, ◌-◌, min, max, Bool, true, false, not, List, [], ◌∷◌, ◌++◌, eqb, ltb, leb, length, replicate}
use Rattle.std.proofs.Math.Option.{Option, some, none, Option-elim}

infixl 35 ◌and◌
infixl 30 ◌or◌
-- conjunction and disjunction
unfoldable pub ◌and◌ : Bool → Bool → Bool
◌and◌ true b = b
◌and◌ false b = false

unfoldable pub ◌or◌ : Bool → Bool → Bool
◌or◌ true b = true
◌or◌ false b = b

module _ {A : Type 0} where
  -- all of a list pass; some does
  unfoldable pub all : (A → Bool) → List A → Bool
  all p [] = true
  all p (x ∷ xs) = elim (p x) [ true ↦ all p xs | false ↦ false ]

  unfoldable pub any : (A → Bool) → List A → Bool
  any p [] = false
  any p (x ∷ xs) = elim (p x) [ true ↦ true | false ↦ any p xs ]

  -- the position of the first that passes; the length if none does
  unfoldable pub first : (A → Bool) → List A → ℕ
  first p [] = 0
  first p (x ∷ xs) = elim (p x) [ true ↦ 0 | false ↦ suc (first p xs) ]

  -- those that pass
  unfoldable pub filter : (A → Bool) → List A → List A
  filter p [] = []
  filter p (x ∷ xs) = elim (p x) [ true ↦ x ∷ filter p xs | false ↦ filter p xs ]

  -- how many pass
  unfoldable pub count : (A → Bool) → List A → ℕ
  count p [] = 0
  count p (x ∷ xs) = elim (p x) [ true ↦ suc (count p xs) | false ↦ count p xs ]

  -- x put into a list that ascends by key: in the place of the one with its key, or before the first with a greater
  unfoldable pub insert : (A → ℕ) → A → List A → List A
  insert key x [] = x ∷ []
  insert key x (y ∷ ys) =
      elim (ltb (key y) (key x)) [
        | true ↦ y ∷ insert key x ys
        | false ↦ elim (eqb (key x) (key y)) [ true ↦ x ∷ ys | false ↦ x ∷ y ∷ ys ]
      ]

  -- a list with the rest of n positions filled up
  unfoldable pub padded : A → ℕ → List A → List A
  padded z n xs = xs ++ replicate (n - length xs) z

  -- f i, f (i + 1), .., n of them
  unfoldable pub from : ℕ → ℕ → (ℕ → A) → List A
  from zero i f = []
  from (suc n) i f = f i ∷ from n (suc i) f

unfoldable pub member : ℕ → List ℕ → Bool
member n xs = any (eqb n) xs

-- the least number of a list; none of the empty one
unfoldable pub least : List ℕ → Option ℕ
least [] = none
least (n ∷ ns) = some (Option-elim (least ns) n (min n))

-- the greatest number of a list; 0 of the empty one
unfoldable pub maximum : List ℕ → ℕ
maximum [] = 0
maximum (n ∷ ns) = max n (maximum ns)

-- strictly ascending, all at least lo and below hi
unfoldable pub ascending : ℕ → ℕ → List ℕ → Bool
ascending lo hi [] = true
ascending lo hi (n ∷ ns) = elim (leb lo n and ltb n hi) [ true ↦ ascending (suc n) hi ns | false ↦ false ]

-- no number but 0 stands twice
unfoldable pub distinct : List ℕ → Bool
distinct [] = true
distinct (n ∷ ns) = elim (eqb n 0 or not (member n ns)) [ true ↦ distinct ns | false ↦ false ]

-- the same numbers in the same order
unfoldable pub same : List ℕ → List ℕ → Bool
same [] [] = true
same [] (y ∷ ys) = false
same (x ∷ xs) [] = false
same (x ∷ xs) (y ∷ ys) = elim (eqb x y) [ true ↦ same xs ys | false ↦ false ]

-- some number below n passes; the greatest that does, 0 if none does
unfoldable pub any_below : (ℕ → Bool) → ℕ → Bool
any_below p zero = false
any_below p (suc n) = p n or any_below p n

unfoldable pub greatest_below : (ℕ → Bool) → ℕ → ℕ
greatest_below p zero = 0
greatest_below p (suc n) = elim (p n) [ true ↦ n | false ↦ greatest_below p n ]
