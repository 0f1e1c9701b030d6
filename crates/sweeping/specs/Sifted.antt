-- Of rows newest first, those that are superseded by the rows before them and not read.
use Rattle.std.specs.Prelude.{ℕ, ◌<◌, ◌≤◌, ◌≡◌, Bool, true, false, not, List, take, get_or}
use Rattle.model.specs.Types.{Entry}
use Rattle.model.specs.Lists.{◌and◌, all, any}
use Rattle.model.specs.Entries.{keys_of, wrote}
use Rattle.reading.specs.Columns.{nth_entry}

-- one of the first i rows wrote the key
unfoldable pub wrote_before : List Entry → List ℕ → ℕ → ℕ → Bool
wrote_before es xs i k = any (λ x. wrote (nth_entry es x) k) (take i xs)

-- row i is kept
unfoldable pub keeps : List Entry → List ℕ → List Bool → ℕ → Bool
keeps es xs read i =
    let d : ℕ = get_or xs i 0 in
    all (wrote_before es xs i) (keys_of (nth_entry es d)) and not (get_or read d false)

-- the first m of ys are the kept among the first n rows, in their order: the jth is row `row j`
pub record AreSifted (es : List Entry) (xs : List ℕ) (read : List Bool) (n m : ℕ) (ys : List ℕ) : Type 0 where
  pub row : ℕ → ℕ
  pub fits : m ≤ n
  pub inside : (j : ℕ) → j < m → row j < n
  pub is : (j : ℕ) → j < m → get_or ys j 0 ≡ get_or xs (row j) 0
  pub kept : (j : ℕ) → j < m → keeps es xs read (row j) ≡ true
  pub rises : (i j : ℕ) → i < j → j < m → row i < row j
  pub every : (i : ℕ) → i < n → keeps es xs read i ≡ true → (j : ℕ) × (j < m) × (row j ≡ i)
