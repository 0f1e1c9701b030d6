-- Bytes that begin with a word, as `strip_prefix` tells them from others.
use Prim.Native.Nat.{ℕ, ◌+◌}
use mathlib.Core.Path.{◌≡◌, refl, ap, ◌∙◌}
use mathlib.Core.Logic.{◌≢◌}
use mathlib.Core.Bool.{true, false}
use mathlib.Core.List.{List, ◌++◌}
use mathlib.Core.Option.{Option, some, none}
use lib.Dec.{eqb}
use lib.ListN.{length, take, drop}
use denote.Ref.{Bor}
use Rattle.std.specs.Prelude as P
use Rattle.std.specs.Prelude.{Some, None, MatchOption}
use Rattle.std.specs.Cmp.Lexicographic.{pointwise}
use Rattle.std.proofs.lemmas.Option.{MatchOption-at_some, MatchOption-at_none}
use Rattle.std.proofs.lemmas.Bool.Decides.{Decides-eqb}
use Rattle.std.proofs.lemmas.Slice.Eq.{strip_prefix_is}
use Rattle.resp.specs.Inverse.{after}
use Rattle.resp.proofs.RestLaws.{after-own, after_is}

-- they are the word and nothing, whatever
after-else : (w s : List ℕ) → ((r : List ℕ) → s ≢ w ++ r) → after w s ≡ none
after-else w s h = go (after w s) refl
  where
    go : (o : Option (List ℕ)) → after w s ≡ o → after w s ≡ none
    go none e = e
    go (some r) e = absurd (h r (after_is w s r e))

-- what `strip_prefix` ensures
abbrev pub Stripped : List ℕ → List ℕ → P.Option (Bor (List ℕ)) → Type 0
Stripped w s o = MatchOption o (pointwise eqb (take (length w) s) w ≡ false)
    (λ x. (pointwise eqb (take (length w) s) w ≡ true) × (x.now ≡ drop (length w) s) × (length x.now + length w ≡ length s))

module _ (w s : List ℕ) (o : P.Option (Bor (List ℕ))) (h : Stripped w s o) where
  pub stripped-none : o ≡ None → after w s ≡ none
  stripped-none e = after-else w s (MatchOption-at_none _ _ e (strip_prefix_is Decides-eqb s w o h))

  pub stripped-some : (x : Bor (List ℕ)) → o ≡ Some x → after w s ≡ some x.now
  stripped-some x e = ap (after w) (MatchOption-at_some _ _ x e (strip_prefix_is Decides-eqb s w o h)) ∙ after-own w x.now

pub stripped : (w s : List ℕ) (o : P.Option (Bor (List ℕ))) → Stripped w s o → MatchOption o (after w s ≡ none) (λ x. after w s ≡ some x.now)
stripped w s None h = stripped-none w s None h refl
stripped w s (Some x) h = stripped-some w s (Some x) h x refl
