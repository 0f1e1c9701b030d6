-- "tickets oldest id first": transactions in the stream's order, and put into it (specs/Exports).
use mathlib.Core.Path.{◌≡◌, refl, ap, ◌∙◌}
use mathlib.Core.Bool.{true}
use mathlib.Core.List.Permᴰ
use mathlib.Core.List.{List, [], ◌∷◌, ◌++◌, reverse, reverse-cons, Permᴰ}
use Rattle.model.specs.Ids.{older}
use Rattle.model.specs.Ranges.{Every}
use Rattle.model.proofs.Tests.{and_left, and_right}
use Rattle.model.proofs.IdLaws.{older-asym, older-trans}
use Rattle.model.proofs.RefusalLaws.{cond-rule}
use Rattle.resp.specs.Streams.{Transaction, oldest_first}
use Rattle.resp.specs.Exports.{inserted, by_age}
use Rattle.resp.proofs.BackLaws.{every-reverse}

-- it is older than all of them
abbrev pub OlderThan : Transaction → List Transaction → Type 0
OlderThan x ys = Every (λ (y : Transaction). older x.id y.id ≡ true) ys

pub ordered-tail : (x : Transaction) (xs : List Transaction) → oldest_first (x ∷ xs) ≡ true → oldest_first xs ≡ true
unfolding oldest_first
ordered-tail x [] h = refl
ordered-tail x (y ∷ xs) h = and_right _ _ h

pub ordered-head : (x : Transaction) (xs : List Transaction) → oldest_first (x ∷ xs) ≡ true → OlderThan x xs
unfolding oldest_first
ordered-head x [] h = tt
ordered-head x (y ∷ xs) h = (and_left _ _ h, later xs (ordered-head y xs (and_right _ _ h)))
  where
    later : (zs : List Transaction) → OlderThan y zs → OlderThan x zs
    later [] f = tt
    later (z ∷ zs) f = (older-trans x.id y.id z.id (and_left _ _ h) f.0, later zs f.1)

-- the oldest comes first, though it stands last
oldest-last : (x : Transaction) (ys : List Transaction) → OlderThan x ys → by_age (ys ++ (x ∷ [])) ≡ x ∷ by_age ys
unfolding by_age inserted
oldest-last x [] f = refl
oldest-last x (y ∷ ys) f = rw (oldest-last x ys f.1, older-asym x.id y.id f.0)

-- those in order, backwards, are put into it again
pub by-age-back : (xs : List Transaction) → oldest_first xs ≡ true → by_age (reverse xs) ≡ xs
by-age-back [] h = unfold by_age in refl
by-age-back (x ∷ xs) h = rw (reverse-cons x xs) (oldest-last x (reverse xs) (every-reverse (λ (y : Transaction). older x.id y.id ≡ true) xs (ordered-head x xs h))
    ∙ ap (λ (ys : List Transaction). x ∷ ys) (by-age-back xs (ordered-tail x xs h)))

-- the same transactions
inserted_same : (x : Transaction) (ys : List Transaction) → Permᴰ (inserted x ys) (x ∷ ys)
unfolding inserted
inserted_same x [] = Permᴰ.refl (x ∷ [])
inserted_same x (y ∷ ys) = cond-rule (λ (zs : List Transaction). Permᴰ zs (x ∷ y ∷ ys)) (older x.id y.id) (x ∷ y ∷ ys) (y ∷ inserted x ys)
    (λ e. Permᴰ.refl (x ∷ y ∷ ys)) (λ e. Permᴰ.trans (Permᴰ.cons refl (inserted_same x ys)) (Permᴰ.swap refl refl))

pub by-age-same : (xs : List Transaction) → Permᴰ (by_age xs) xs
unfolding by_age
by-age-same [] = Permᴰ.nil
by-age-same (x ∷ xs) = Permᴰ.trans (inserted_same x (by_age xs)) (Permᴰ.cons refl (by-age-same xs))
