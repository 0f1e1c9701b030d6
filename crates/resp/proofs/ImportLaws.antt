-- What an import answers, and that it is of the stream alone.
use Prim.Native.Nat.{ℕ, ◌≤◌, ◌<◌}
use mathlib.Core.Path.{◌≡◌, refl, sym, ap, subst, ◌∙◌}
use mathlib.Core.Logic.{◌≢◌}
use mathlib.Core.Bool.{Bool, true, false}
use mathlib.Core.List.{List}
use mathlib.Core.Option.{Option, some, none}
use lib.Dec.{eqb, ltb}
use lib.ListN.{length}
use native.Mathlib.Omega.{arith}
use borrow.Author.Tests.{ltb-true, ltb-false, eqb-true, lt-ltb, le-ltb, eq-eqb}
use Rattle.std.specs.Prelude.{Result, Ok, Err}
use Rattle.model.specs.Kinds.{narrow_kind, store_size}
use Rattle.model.specs.Effects.{wrong_length}
use Rattle.resp.specs.declared.Refused.{Refused}
use Rattle.resp.specs.Streams.{Transaction}
use Rattle.resp.specs.Inverse.{transactions_in}
use Rattle.resp.specs.Exports.{refused}
use Rattle.resp.specs.Imports.{Import, filled, unimported, taken, import}
use Rattle.resp.specs.Claims.{IsStream, IsStore, TakenExactly, TooManyExactly, ImportedAgain}
use Rattle.resp.proofs.ReadExactly.{read-exactly}

-- ── the rows ──
pub refused≢done : (m d n : ℕ) → refused m d ≢ Ok n
refused≢done m d n h = cc

right-store : (bs s : List ℕ) → IsStore s → import bs s ≡ taken (transactions_in bs) s
unfolding import wrong_length
right-store bs s h = rw (eq-eqb (length s) (store_size narrow_kind) h)

taken-few : (xs : List Transaction) (s : List ℕ) → length xs ≤ narrow_kind.slots → taken (some xs) s ≡ record { answer = Ok (length xs); store = filled xs }
unfolding taken
taken-few xs s o = rw (le-ltb narrow_kind.slots (length xs) o)

pub taken-many : (xs : List Transaction) (s : List ℕ) → narrow_kind.slots < length xs → taken (some xs) s ≡ unimported 13 s
unfolding taken
taken-many xs s o = rw (lt-ltb narrow_kind.slots (length xs) o)

-- ── the rows, from the answer ──
pub done-store : (bs s : List ℕ) (n : ℕ) → (import bs s).answer ≡ Ok n → IsStore s
unfolding import wrong_length
done-store bs s n h = go (eqb (length s) (store_size narrow_kind)) refl
  where
    go : (t : Bool) → eqb (length s) (store_size narrow_kind) ≡ t → IsStore s
    go true e = eqb-true (length s) (store_size narrow_kind) e
    go false e = absurd (refused≢done 1 0 n (rw e at h))

abbrev Few : Option (List Transaction) → ℕ → Type 0
Few o n = (xs : List Transaction) × (o ≡ some xs) × (length xs ≡ n) × (n ≤ narrow_kind.slots)

done-few : (o : Option (List Transaction)) (s : List ℕ) (n : ℕ) → (taken o s).answer ≡ Ok n → Few o n
unfolding taken
done-few none s n h = absurd (refused≢done 27 0 n h)
done-few (some xs) s n h = go (ltb narrow_kind.slots (length xs)) refl
  where
    go : (t : Bool) → ltb narrow_kind.slots (length xs) ≡ t → Few (some xs) n
    go true e = absurd (refused≢done 13 0 n (rw e at h))
    go false e =
        let d : ◌≡◌ {A = Result ℕ Refused} (Ok (length xs)) (Ok n) = rw e at h in
        let q : length xs ≡ n = cc in
        (xs, refl, q, subst (λ (m : ℕ). m ≤ narrow_kind.slots) q (ltb-false narrow_kind.slots (length xs) e))

abbrev Many : Option (List Transaction) → Type 0
Many o = (xs : List Transaction) × (o ≡ some xs) × (narrow_kind.slots < length xs)

-- the number of a refusal, else 0
number_in : Result ℕ Refused → ℕ
number_in (Ok n) = 0
number_in (Err r) = r.number

refused-many : (o : Option (List Transaction)) (s : List ℕ) → (taken o s).answer ≡ refused 13 0 → Many o
unfolding taken number_in
refused-many none s h = let z : ◌≡◌ {A = ℕ} 27 13 = ap number_in h in absurd (omega arith)
refused-many (some xs) s h = go (ltb narrow_kind.slots (length xs)) refl
  where
    go : (t : Bool) → ltb narrow_kind.slots (length xs) ≡ t → Many (some xs)
    go true e = (xs, refl, ltb-true narrow_kind.slots (length xs) e)
    go false e = absurd (refused≢done 13 0 (length xs) (sym (rw e at h)))

-- ── the claims ──
-- an import into a store of the right length, by what is read
pub as-taken : (bs s : List ℕ) (o : Option (List Transaction)) → IsStore s → transactions_in bs ≡ o → import bs s ≡ taken o s
as-taken bs s o h e = right-store bs s h ∙ ap (λ (x : Option (List Transaction)). taken x s) e

-- at most 64 transactions: the store is theirs alone
pub imports : (bs s : List ℕ) (xs : List Transaction) → IsStore s → transactions_in bs ≡ some xs → length xs ≤ narrow_kind.slots
    → import bs s ≡ record { answer = Ok (length xs); store = filled xs }
imports bs s xs h e o = as-taken bs s (some xs) h e ∙ taken-few xs s o

read-few : (bs s : List ℕ) (n : ℕ) → IsStore s → (import bs s).answer ≡ Ok n → Few (transactions_in bs) n
read-few bs s n h k = done-few (transactions_in bs) s n (ap (λ (x : Import). x.answer) (sym (right-store bs s h)) ∙ k)

pub taken-exactly : TakenExactly
taken-exactly bs s h n = (from, back)
  where
    from : (import bs s).answer ≡ Ok n → (xs : List Transaction) × IsStream bs xs × (length xs ≡ n) × (n ≤ narrow_kind.slots)
    from k = let f : Few (transactions_in bs) n = read-few bs s n h k in (f.0, (read-exactly bs f.0).0 f.1, f.2, f.3)

    back : (xs : List Transaction) × IsStream bs xs × (length xs ≡ n) × (n ≤ narrow_kind.slots) → (import bs s).answer ≡ Ok n
    back k = ap (λ (x : Import). x.answer) (imports bs s k.0 h ((read-exactly bs k.0).1 k.1) (omega (arith, k.2, k.3))) ∙ ap Ok k.2

pub too-many-exactly : TooManyExactly
too-many-exactly bs s h = (from, back)
  where
    from : (import bs s).answer ≡ refused 13 0 → (xs : List Transaction) × IsStream bs xs × (narrow_kind.slots < length xs)
    from k =
        let f : Many (transactions_in bs) = refused-many (transactions_in bs) s (ap (λ (x : Import). x.answer) (sym (right-store bs s h)) ∙ k) in
        (f.0, (read-exactly bs f.0).0 f.1, f.2)

    back : (xs : List Transaction) × IsStream bs xs × (narrow_kind.slots < length xs) → (import bs s).answer ≡ refused 13 0
    back k = ap (λ (x : Import). x.answer) (as-taken bs s (some k.0) h ((read-exactly bs k.0).1 k.1) ∙ taken-many k.0 s k.2)

pub imported-again : ImportedAgain
imported-again bs s s₂ n h₂ k =
    let h : IsStore s = done-store bs s n k in
    let f : Few (transactions_in bs) n = read-few bs s n h k in
    let o : length f.0 ≤ narrow_kind.slots = omega (arith, f.2, f.3) in
    imports bs s₂ f.0 h₂ f.1 o ∙ sym (imports bs s f.0 h f.1 o)
