-- The parts of a slice (specs/Layout) are what its `chunks_exact` gives.
use Rattle.std.proofs.Math.Nat.{add-div_left}
use Rattle.std.proofs.lemmas.Nat.{div_below, div-mul-add}
use Rattle.std.proofs.lemmas.Iterator.{YieldsList}
use Rattle.std.proofs.lemmas.Iterator.Splits.{YieldsList-from_shown_while}
use Rattle.std.specs.declared.slice.ChunksExact.{ChunksExact}
use Rattle.std.specs.Slice.Iter.{chunks_exact_rest, chunks_exact_size, chunks_exact_steps}
use Prim.Native.Nat.{◌/◌}
use Rattle.image.proofs.Names.{ℕ, suc, ◌+◌, ◌*◌, ◌<◌, ◌≡◌, sym, ap, subst, ◌∙◌, List, ◌∷◌, ◌++◌, length, length-append, take_at, drop_at, arith, parts}
use Rattle.image.proofs.PartLaws.{parts-length}

abbrev shown : ChunksExact ℕ → List (List ℕ)
shown s = parts (chunks_exact_size s) (length (chunks_exact_rest s) / chunks_exact_size s) (chunks_exact_rest s)

shown_none : (k : ℕ) (b : List ℕ) → 0 < k → length b < k → length (parts k (length b / k) b) ≡ 0
shown_none k b o h = parts-length k (length b / k) b ∙ omega (arith, div_below (length b) k 1 o (omega arith))

shown_some : (k : ℕ) (x r b : List ℕ) → 0 < k → b ≡ x ++ r → length x ≡ k → parts k (length b / k) b ≡ x ∷ parts k (length r / k) r
unfolding parts
shown_some k x r b o e l =
    let n : length b ≡ k + length r = ap length e ∙ length-append x r ∙ ap (λ (m : ℕ). m + length r) l in
    let q : length b / k ≡ suc (length r / k) = ap (λ (m : ℕ). m / k) n ∙ add-div_left (length r) o ∙ omega arith in
    rw (q, e, take_at x r k l, drop_at x r k l)

-- of a slice that is just n parts long
pub YieldsList-from_parts : {s : ChunksExact ℕ} (k n : ℕ) (b : List ℕ) → 0 < k → length b ≡ k * n → chunks_exact_rest s ≡ b → chunks_exact_size s ≡ k → YieldsList chunks_exact_steps (λ x. x.now) s (parts k n b)
YieldsList-from_parts {s} k n b o l e f =
    let q : length b / k ≡ n = ap (λ (m : ℕ). m / k) (omega (arith, l)) ∙ div-mul-add n k 0 o in
    let p : shown s ≡ parts k n b = rw (e, f, q) in
    subst (YieldsList chunks_exact_steps (λ x. x.now) s) p
    (YieldsList-from_shown_while chunks_exact_steps (λ x. x.now) shown (λ t. 0 < chunks_exact_size t)
    (λ t u h c. shown_none _ _ h c.1.0)
    (λ t x u h c. (omega (arith, h, c.0), shown_some _ _ _ _ h c.1.0 c.1.1 ∙ ap (λ (m : ℕ). x.now ∷ parts m (length (chunks_exact_rest u) / m) (chunks_exact_rest u)) (sym c.0)))
    s (omega (arith, o, f)))
