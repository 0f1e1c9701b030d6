-- Transactions from the oldest to the newest: one more after the last.
use Prim.Native.Nat.{ℕ, zero, suc, ◌≤◌}
use mathlib.Core.Path.{◌≡◌, refl, sym, ◌∙◌}
use mathlib.Core.Logic.{inl}
use mathlib.Core.Bool.{true, false, true≢false}
use mathlib.Core.List.{List, [], ◌∷◌, ◌++◌}
use lib.ListN.{drop}
use Rattle.model.specs.declared.Id.{Id}
use Rattle.model.specs.Ids.{older, no_id}
use Rattle.model.proofs.Tests.{and_left, and_right, and_intro, and-none-left, and-none-right}
use Rattle.model.proofs.IdLaws.{is-older}
use Rattle.resp.specs.Streams.{Transaction, oldest_first}
use Rattle.resp.proofs.OldestLast.{ordered-tail}

-- the last one's id; another where there is none
unfoldable pub last_id : Id → List Transaction → Id
last_id i [] = i
last_id i (x ∷ xs) = last_id x.id xs

pub last_more : (i : Id) (xs : List Transaction) (x : Transaction) → last_id i (xs ++ (x ∷ [])) ≡ x.id
unfolding last_id
last_more i [] x = refl
last_more i (y ∷ xs) x = last_more y.id xs x

pub ordered-more : (xs : List Transaction) (x : Transaction) → oldest_first xs ≡ true → older (last_id no_id xs) x.id ≡ true → oldest_first (xs ++ (x ∷ [])) ≡ true
unfolding oldest_first last_id
ordered-more [] x h o = refl
ordered-more (y ∷ []) x h o = and_intro _ _ o refl
ordered-more (y ∷ z ∷ xs) x h o = and_intro _ _ (and_left _ _ h) (ordered-more (z ∷ xs) x (and_right _ _ h) o)

-- the first one comes after no_id
pub unordered : (xs : List Transaction) (x : Transaction) (ys : List Transaction) → 1 ≤ x.id.clock → older (last_id no_id xs) x.id ≡ false → oldest_first (xs ++ (x ∷ ys)) ≡ false
unfolding oldest_first last_id
unordered [] x ys c o = absurd (true≢false (sym (is-older no_id x.id (inl c)) ∙ o))
unordered (y ∷ []) x ys c o = and-none-left _ _ o
unordered (y ∷ z ∷ xs) x ys c o = and-none-right _ _ (unordered (z ∷ xs) x ys c o)

pub ordered-drop : (n : ℕ) (xs : List Transaction) → oldest_first xs ≡ true → oldest_first (drop n xs) ≡ true
ordered-drop zero xs h = h
ordered-drop (suc n) [] h = h
ordered-drop (suc n) (x ∷ xs) h = ordered-drop n xs (ordered-tail x xs h)
