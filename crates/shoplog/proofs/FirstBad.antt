-- 02 §10: "the first refused or bad one is the whole answer, with its line". The verdict is what is said of the first line of which anything is, and no
-- other verdict is.
use Prim.Native.Nat.{ℕ, zero, suc, ◌+◌, ◌<◌, suc-le-suc}
use mathlib.Core.Path.{◌≡◌, refl, sym, ap, ◌∙◌}
use mathlib.Core.Logic.{◌≢◌, ◌⊎◌, inl, inr}
use mathlib.Core.List.{List, [], ◌∷◌}
use mathlib.Core.Option.{Option, none}
use lib.ListN.{length, get_or}
use native.Mathlib.Nat.{le_of_suc-le-suc, not-suc-le-zero, zero-lt-suc}
use native.Mathlib.Decide.{ℕ_discrete, dec_lt}
use native.Mathlib.Omega.{arith}
use Rattle.shoplog.specs.declared.Verdict.{Verdict}
use Rattle.shoplog.specs.declared.Verdict.TheVariants.{Clean, Bad, Refused}
use Rattle.shoplog.specs.Lines.{Line}
use Rattle.shoplog.specs.Logs.{line_verdict, or_else, with_line, verdict_from}
use Rattle.shoplog.specs.Claims.{above_from, said_of, FirstBad}

-- what is said of the line with n lines above it, after those of ls, the first being line k
abbrev said_from : List Line → ℕ → List (Option Line) → ℕ → Verdict
said_from ls k xs n = line_verdict (above_from ls n xs) (n + k) (get_or xs n none)

abbrev FineFrom : List Line → ℕ → List (Option Line) → ℕ → Type 0
FineFrom ls k xs n = (m : ℕ) → m < n → said_from ls k xs m ≡ Clean

abbrev FirstFrom : List Line → ℕ → List (Option Line) → Verdict → Type 0
FirstFrom ls k xs v = ((v ≡ Clean) × FineFrom ls k xs (length xs)) ⊎ ((n : ℕ) × (n < length xs) × (said_from ls k xs n ≡ v) × (v ≢ Clean) × FineFrom ls k xs n)

said-first : (ls : List Line) (k : ℕ) (x : Option Line) (xs : List (Option Line)) → said_from ls k (x ∷ xs) 0 ≡ line_verdict ls k x
unfolding above_from
said-first ls k x xs = let e : 0 + k ≡ k = omega arith in ap (λ (n : ℕ). line_verdict ls n x) e

said-next : (ls : List Line) (k : ℕ) (x : Option Line) (xs : List (Option Line)) (m : ℕ) → said_from ls k (x ∷ xs) (suc m) ≡ said_from (with_line x ls) (k + 1) xs m
unfolding above_from
said-next ls k x xs m = let e : suc m + k ≡ m + (k + 1) = omega arith in ap (λ (n : ℕ). line_verdict (above_from (with_line x ls) m xs) n (get_or xs m none)) e

-- the first line is fine, and the next n
fine_more : (ls : List Line) (k : ℕ) (x : Option Line) (xs : List (Option Line)) (n : ℕ) → line_verdict ls k x ≡ Clean → FineFrom (with_line x ls) (k + 1) xs n → FineFrom ls k (x ∷ xs) (suc n)
fine_more ls k x xs n e f zero o = said-first ls k x xs ∙ e
fine_more ls k x xs n e f (suc m) o = said-next ls k x xs m ∙ f m (le_of_suc-le-suc o)

first-from : (ls : List Line) (k : ℕ) (xs : List (Option Line)) → FirstFrom ls k xs (verdict_from ls k xs)
unfolding verdict_from or_else
first-from ls k [] = inl (refl, λ m o. absurd (not-suc-le-zero o))
first-from ls k (x ∷ xs) = go (line_verdict ls k x) refl (first-from (with_line x ls) (k + 1) xs)
  where
    here : (v : Verdict) → line_verdict ls k x ≡ v → v ≢ Clean → FirstFrom ls k (x ∷ xs) v
    here v e n = inr (0, zero-lt-suc _, said-first ls k x xs ∙ e, n, λ m o. absurd (not-suc-le-zero o))

    go : (v : Verdict) → line_verdict ls k x ≡ v → FirstFrom (with_line x ls) (k + 1) xs (verdict_from (with_line x ls) (k + 1) xs)
        → FirstFrom ls k (x ∷ xs) (or_else v (verdict_from (with_line x ls) (k + 1) xs))
    go Clean e (inl (c, f)) = inl (c, fine_more ls k x xs (length xs) e f)
    go Clean e (inr (n, o, s, c, f)) = inr (suc n, suc-le-suc o, said-next ls k x xs n ∙ s, c, fine_more ls k x xs n e f)
    go (Bad n) e ih = here (Bad n) e (λ q. let z : ◌≡◌ {A = ℕ} 0 1 = cc in omega arith)
    go (Refused c n) e ih = here (Refused c n) e (λ q. let z : ◌≡◌ {A = ℕ} 0 1 = cc in omega arith)

pub first-bad : (xs : List (Option Line)) → FirstBad xs (verdict_from [] 1 xs)
first-bad xs = first-from [] 1 xs

-- so it says which verdict it is
pub first-bad-only : (xs : List (Option Line)) (v w : Verdict) → FirstBad xs v → FirstBad xs w → v ≡ w
first-bad-only xs v w (inl (a, f)) (inl (b, g)) = a ∙ sym b
first-bad-only xs v w (inl (a, f)) (inr (m, o, s, c, g)) = absurd (c (sym s ∙ f m o))
first-bad-only xs v w (inr (n, o, s, c, f)) (inl (b, g)) = absurd (c (sym s ∙ g n o))
first-bad-only xs v w (inr (n, o, s, c, f)) (inr (m, p, q, d, g)) = go (ℕ_discrete n m) (dec_lt n m)
  where
    go : Dec (n ≡ m) → Dec (n < m) → v ≡ w
    go (yes e) l = sym s ∙ (ap (said_of xs) e ∙ q)
    go (no e) (yes l) = absurd (c (sym s ∙ g n l))
    go (no e) (no l) = absurd (d (sym q ∙ f m (omega arith)))
