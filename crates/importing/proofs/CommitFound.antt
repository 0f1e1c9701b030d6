-- A commit's command written, and the stream compared with it.
use Prim.Native.Nat.{ℕ, ◌+◌, ◌≤◌}
use mathlib.Core.Path.{◌≡◌, sym, ap, ap₂, subst, ◌∙◌}
use mathlib.Core.Bool.{true}
use mathlib.Core.List.{List, ◌∷◌}
use mathlib.Core.Option.{some, none}
use lib.ListN.{length, take}
use native.Mathlib.Omega.{arith}
use denote.Ref.{Bor}
use Rattle.std.specs.Prelude as P
use Rattle.std.specs.Prelude.{MatchOption}
use Rattle.model.specs.declared.Id.{Id}
use Rattle.model.specs.Lists.{ascending}
use Rattle.model.specs.Limits.{keys}
use Rattle.decimal.specs.Written.{written}
use Rattle.decimal.proofs.WrittenLaws.{written-taken}
use Rattle.resp.specs.Inverse.{after}
use Rattle.resp.specs.Streams.{slash, set_command, id_text, commit_name, keys_text, commit_command}
use Rattle.resp.proofs.LengthLaws.{commit-long}
use Rattle.resp.proofs.AfterLaws.{Stripped, stripped}

-- the command is written over the bytes t₀, its first n now; the id's text is x
module _ (i : Id) (ks t₀ t x : List ℕ) (n : ℕ) (e : x ≡ id_text i) (l : n ≡ 0 + length (set_command (99 ∷ slash ∷ x) (keys_text ks)))
    (w : t ≡ written t₀ 0 (set_command (99 ∷ slash ∷ x) (keys_text ks))) where
  command-is : set_command (99 ∷ slash ∷ x) (keys_text ks) ≡ commit_command i ks
  unfolding commit_command commit_name
  command-is = ap (λ (y : List ℕ). set_command (99 ∷ slash ∷ y) (keys_text ks)) e

  taken_is : take n t ≡ commit_command i ks
  taken_is =
      let z : n ≡ length (set_command (99 ∷ slash ∷ x) (keys_text ks)) = omega (arith, l) in
      ap₂ take z w ∙ written-taken t₀ (set_command (99 ∷ slash ∷ x) (keys_text ks)) ∙ command-is

  size_is : n ≡ length (commit_command i ks)
  size_is = l ∙ ap (λ (y : List ℕ). 0 + length y) command-is ∙ omega arith

  pub command-front : n ≡ length (take n t)
  command-front = size_is ∙ ap length (sym taken_is)

  pub command-fits : length x ≤ 31 → ascending 0 keys ks ≡ true → length ks ≤ 8 → n ≤ 256
  command-fits o a f = omega (arith, l, commit-long x ks o a f)

  pub commit-stripped : (bs : List ℕ) (o : P.Option (Bor (List ℕ))) → Stripped (take n t) bs o → MatchOption o (after (commit_command i ks) bs ≡ none) (λ r. after (commit_command i ks) bs ≡ some r.now)
  commit-stripped bs o h = stripped _ _ o (subst (λ (c : List ℕ). Stripped c bs o) taken_is h)
