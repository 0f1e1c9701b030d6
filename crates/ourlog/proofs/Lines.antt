-- A log's lines, the nearest first, while one more comes.
use Prim.Native.Nat.{ℕ}
use mathlib.Core.Path.{◌≡◌, refl, subst}
use mathlib.Core.Logic.{◌↔◌, ◌≢◌, ◌⊎◌, inl, inr, ⊎_elim}
use mathlib.Core.Bool.{false}
use mathlib.Core.List.Memᴰ
use mathlib.Core.List.{List, [], ◌∷◌, ◌++◌, Memᴰ}
use Rattle.model.specs.Ranges.{Every}
use Rattle.shoplog.specs.Lines.{Line, write, commit, read}
use Rattle.shoplog.specs.Verdicts.{is_bad}
use Rattle.shoplog.specs.Claims.{onto}

-- whose line it is
unfoldable pub ticket_of : Line → ℕ
ticket_of (write t k) = t
ticket_of (commit t c) = t
ticket_of (read t k i) = t

-- none of the lines is bad, by those above it
unfoldable pub NoneBad : List Line → Type 0
NoneBad [] = Unit {0}
NoneBad (l ∷ ls) = (is_bad ls l ≡ false) × NoneBad ls

-- the lines of one ticket are the same
abbrev pub SameOf : ℕ → List Line → List Line → Type 0
SameOf t ls ms = (x : Line) → ticket_of x ≡ t → Memᴰ x ls ↔ Memᴰ x ms

pub same-all : (t : ℕ) (ls : List Line) → SameOf t ls ls
same-all t ls x e = (λ m. m, λ m. m)

-- a line that is not the last stands above it
pub stands-above : (l : Line) (ls : List Line) (x : Line) → x ≢ l → Memᴰ x (l ∷ ls) → Memᴰ x ls
stands-above l ls x n m = ⊎_elim (λ e. absurd (n e)) (λ y. y) (Memᴰ.cases_cons m)

-- a line of another ticket
pub same-others : (t : ℕ) (l : Line) (ls : List Line) → ticket_of l ≢ t → SameOf t ls (l ∷ ls)
same-others t l ls n x e = (λ m. Memᴰ.tail m, λ m. stands-above l ls x (λ q. n (subst (λ (y : Line). ticket_of y ≡ t) q e)) m)

-- ── lines put below others ──
pub onto-append : (ls xs ys : List Line) → onto ls (xs ++ ys) ≡ onto (onto ls xs) ys
unfolding onto
onto-append ls [] ys = refl
onto-append ls (x ∷ xs) ys = onto-append (x ∷ ls) xs ys

pub onto-mem : (ls xs : List Line) (x : Line) → Memᴰ x (onto ls xs) → Memᴰ x ls ⊎ Memᴰ x xs
unfolding onto
onto-mem ls [] x m = inl m
onto-mem ls (y ∷ xs) x m =
    ⊎_elim (λ h. ⊎_elim (λ e. inr (Memᴰ.head e)) (λ h'. inl h') (Memᴰ.cases_cons h)) (λ h. inr (Memᴰ.tail h)) (onto-mem (y ∷ ls) xs x m)

pub every-onto : (P : Line → Type 0) (ls xs : List Line) → Every P (onto ls xs) → Every P ls × Every P xs
unfolding onto
every-onto P ls [] f = (f, tt)
every-onto P ls (x ∷ xs) f = let r = every-onto P (x ∷ ls) xs f in (r.0.1, (r.0.0, r.1))
