-- A transaction, its versions and its commit, is read back from its bytes, and from no others.
use Prim.Native.Nat.{ℕ, zero, suc, ◌<◌, ◌≤◌, zero-le, suc-le-suc}
use mathlib.Core.Path.{◌≡◌, refl, sym, ap, ap₂, subst, ◌∙◌}
use mathlib.Core.Bool.{Bool, true, false}
use mathlib.Core.List.{List, [], ◌∷◌, ◌++◌, map, append-nil, append_assoc}
use mathlib.Core.Option.{Option, some, none, none-ne-some, some-injective}
use lib.ListN.{length}
use lib.Seq.{append_snoc}
use native.Mathlib.Nat.{le_of_suc-le-suc, not-suc-le-zero}
use borrow.Author.Tests.{ltb-true, lt-ltb}
use Rattle.model.specs.declared.Id.{Id}
use Rattle.model.specs.Types.{Write}
use Rattle.model.specs.Lists.{ascending}
use Rattle.model.specs.Limits.{keys, number_range}
use Rattle.model.specs.Lives.{write_key}
use Rattle.model.specs.Ranges.{Every}
use Rattle.model.proofs.Tests.{and_left, and_right, and_intro}
use Rattle.model.proofs.IdLaws.{same_id_lem, id_same}
use Rattle.model.proofs.InsertLaws.{ascending-head, ascending-tail, ascending-cons}
use Rattle.resp.specs.Streams.{Transaction, version_command, commit_command, versions_text, transaction_text, TransactionFits}
use Rattle.resp.specs.Inverse.{Version, version_in, Taken, closed, goes_on, onward, versions_from, transaction_in}
use Rattle.resp.proofs.ThenLaws.{then_some, then-read}
use Rattle.resp.proofs.RestLaws.{after-own, after_is}
use Rattle.resp.proofs.NameBack.{IdNamed}
use Rattle.resp.proofs.VersionBack.{WriteFits, VersionBytes, version-back, version-is, commit-other}

-- the versions of vs, the commit of us, and the bytes after it; what is read as a transaction of us
abbrev pub parts_of : Id → List Write → List Write → List ℕ → List ℕ
parts_of i vs us r = versions_text i vs ++ (commit_command i (map write_key us) ++ r)

abbrev taken_as : Id → List Write → List ℕ → Taken
taken_as i us r = record { transaction = record { id = i; writes = us }; rest = r }

abbrev pub Values : List Write → Type 0
Values ws = Every (λ (w : Write). w.value < number_range) ws

-- ── written, then read ──
closed-back : (i : Id) (ws : List Write) (r : List ℕ) → closed i ws (commit_command i (map write_key ws) ++ r) ≡ some (taken_as i ws r)
unfolding closed
closed-back i ws r = then_some _ _ r (after-own (commit_command i (map write_key ws)) r)

module _ (i : Id) (k : ℕ) (next : Version → Option Taken) (end : Option Taken) where
  onward-end : (o : Option Version) → o ≡ none → onward i k o next end ≡ end
  unfolding onward
  onward-end o h = rw h

  onward-next : (o : Option Version) (v : Version) → o ≡ some v → v.id ≡ i → k < v.write.key → onward i k o next end ≡ next v
  unfolding onward goes_on
  onward-next o v h e l = rw (h, and_intro _ _ (id_same v.id i e) (lt-ltb k v.write.key l))

-- after the writes ws, the last of key k: the writes vs, their keys ascending from there
module _ (i : Id) (named : IdNamed i) (r : List ℕ) where
  versions-back : (more k : ℕ) (ws vs : List Write) → length vs ≤ more → ascending (suc k) keys (map write_key vs) ≡ true → Values vs
      → versions_from more i k ws (parts_of i vs (ws ++ vs) r) ≡ some (taken_as i (ws ++ vs) r)
  unfolding versions_from versions_text
  versions-back zero k ws [] o a h = rw (append-nil ws) (closed-back i ws r)
  versions-back zero k ws (v ∷ vs) o a h = absurd (not-suc-le-zero o)
  versions-back (suc more) k ws [] o a h = rw (append-nil ws) (onward-end i k _ _ _ (commit-other i (map write_key ws) r named) ∙ closed-back i ws r)
  versions-back (suc more) k ws (v ∷ vs) o a h =
      let low : (suc k ≤ v.key) × (v.key < keys) = ascending-head (suc k) keys v.key (map write_key vs) a in
      let left : List ℕ = parts_of i vs (ws ++ (v ∷ vs)) r in
      ap (versions_from (suc more) i k ws) (append_assoc (version_command i v) (versions_text i vs) _)
      ∙ onward-next i k _ _ _ (record { id = i; write = v; rest = left }) (version-back i v left named (record { key-low = low.1; value64 = h.0 })) refl low.0
      ∙ subst (λ (us : List Write). versions_from more i v.key (ws ++ (v ∷ [])) (parts_of i vs us r) ≡ some (taken_as i us r))
      (append_snoc ws v vs) (versions-back more v.key (ws ++ (v ∷ [])) vs (le_of_suc-le-suc o) (ascending-tail (suc k) keys v.key (map write_key vs) a) h.1)

-- a transaction's bytes and those after it, one part after the other
text-parts : (i : Id) (w : Write) (ws : List Write) (r : List ℕ) → transaction_text (record { id = i; writes = w ∷ ws }) ++ r ≡ version_command i w ++ parts_of i ws (w ∷ ws) r
unfolding transaction_text versions_text
text-parts i w ws r =
    append_assoc (version_command i w ++ versions_text i ws) (commit_command i (map write_key (w ∷ ws))) r
    ∙ append_assoc (version_command i w) (versions_text i ws) (commit_command i (map write_key (w ∷ ws)) ++ r)

text-back : (i : Id) (ws : List Write) (r : List ℕ) → TransactionFits (record { id = i; writes = ws })
    → transaction_in (transaction_text (record { id = i; writes = ws }) ++ r) ≡ some (taken_as i ws r)
unfolding transaction_in
text-back i [] r h = absurd (not-suc-le-zero h.some-write)
text-back i (w ∷ ws) r h =
    let named : IdNamed i = record { clock-from = h.clock-from; clock64 = h.clock64; txn-from = h.txn-from; txn32 = h.txn32 } in
    let fits : WriteFits w = record { key-low = (ascending-head 0 keys w.key (map write_key ws) h.ascends).1; value64 = h.values.0 } in
    let left : List ℕ = parts_of i ws (w ∷ ws) r in
    ap transaction_in (text-parts i w ws r)
    ∙ then_some _ _ (record { id = i; write = w; rest = left }) (version-back i w left named fits)
    ∙ versions-back i named r 7 w.key (w ∷ []) ws (le_of_suc-le-suc h.writes-fit) (ascending-tail 0 keys w.key (map write_key ws) h.ascends) h.values.1

pub transaction-back : (x : Transaction) (r : List ℕ) → TransactionFits x → transaction_in (transaction_text x ++ r) ≡ some (record { transaction = x; rest = r })
transaction-back x r h = text-back x.id x.writes r h

-- ── read: so it was written ──
-- what is read after the writes ws, the last of key k: further writes, at most so many, and the commit of all
pub record Further (more : ℕ) (i : Id) (k : ℕ) (ws : List Write) (bs : List ℕ) (t : Taken) : Type 0 where
  pub further : List Write
  pub bytes-are : bs ≡ parts_of i further (ws ++ further) t.rest
  pub taken_is : t.transaction ≡ record { id = i; writes = ws ++ further }
  pub few : length further ≤ more
  pub ascends : ascending (suc k) keys (map write_key further) ≡ true
  pub values : Values further

closed_is : (more : ℕ) (i : Id) (k : ℕ) (ws : List Write) (bs : List ℕ) (t : Taken) → closed i ws bs ≡ some t → Further more i k ws bs t
unfolding closed versions_text ascending
closed_is more i k ws bs t h = then-read _ _ t h λ r e q. found r (after_is (commit_command i (map write_key ws)) bs r e) (some-injective _ t q)
  where
    found : (r : List ℕ) → bs ≡ commit_command i (map write_key ws) ++ r → taken_as i ws r ≡ t → Further more i k ws bs t
    found r e q =
        record {
          further = [];
          bytes-are = e ∙ ap₂ (λ (us : List Write) (l : List ℕ). commit_command i (map write_key us) ++ l) (sym (append-nil ws)) (ap (λ (x : Taken). x.rest) q);
          taken_is = ap (λ (x : Taken). x.transaction) (sym q) ∙ ap (λ (us : List Write). record { id = i; writes = us }) (sym (append-nil ws));
          few = zero-le;
          ascends = refl;
          values = tt;
        }

-- by the version that comes next
onward-read : {C : Type 0} (i : Id) (k : ℕ) (o : Option Version) (next : Version → Option Taken) (end : Option Taken) (t : Taken) → onward i k o next end ≡ some t
    → (end ≡ some t → C) → ((v : Version) → o ≡ some v → goes_on i k v ≡ true → next v ≡ some t → C) → C
unfolding onward
onward-read i k none next end t h f g = f h
onward-read {C = C} i k (some v) next end t h f g = go (goes_on i k v) refl
  where
    go : (b : Bool) → goes_on i k v ≡ b → C
    go true e = g v refl e (rw e at h)
    go false e = absurd (none-ne-some t (rw e at h))

further-one : (more : ℕ) (i : Id) (k : ℕ) (ws : List Write) (bs : List ℕ) (t : Taken) (v : Version) → VersionBytes bs v → goes_on i k v ≡ true
    → Further more i v.write.key (ws ++ (v.write ∷ [])) v.rest t → Further (suc more) i k ws bs t
unfolding goes_on versions_text
further-one more i k ws bs t v p g f =
    let e : v.id ≡ i = same_id_lem v.id i (and_left _ _ g) in
    record {
      further = v.write ∷ f.further;
      bytes-are =
          p.bytes-are
          ∙ ap₂ (λ (j : Id) (l : List ℕ). version_command j v.write ++ l) e f.bytes-are
          ∙ sym (append_assoc (version_command i v.write) (versions_text i f.further) _)
          ∙ ap (λ (us : List Write). parts_of i (v.write ∷ f.further) us t.rest) (append_snoc ws v.write f.further);
      taken_is = f.taken_is ∙ ap (λ (us : List Write). record { id = i; writes = us }) (append_snoc ws v.write f.further);
      few = suc-le-suc f.few;
      ascends = ascending-cons (suc k) keys v.write.key (map write_key f.further) (ltb-true k v.write.key (and_right _ _ g)) p.fits.key-low f.ascends;
      values = (p.fits.value64, f.values);
    }

versions-is : (more : ℕ) (i : Id) (k : ℕ) (ws : List Write) (bs : List ℕ) (t : Taken) → versions_from more i k ws bs ≡ some t → Further more i k ws bs t
unfolding versions_from
versions-is zero i k ws bs t h = closed_is zero i k ws bs t h
versions-is (suc more) i k ws bs t h =
    onward-read i k (version_in bs) _ _ t h (closed_is (suc more) i k ws bs t)
    (λ v e g n. further-one more i k ws bs t v (version-is bs v e) g (versions-is more i v.write.key (ws ++ (v.write ∷ [])) v.rest t n))

pub record TransactionBytes (bs : List ℕ) (t : Taken) : Type 0 where
  pub bytes-are : bs ≡ transaction_text t.transaction ++ t.rest
  pub fits : TransactionFits t.transaction

pub transaction-is : (bs : List ℕ) (t : Taken) → transaction_in bs ≡ some t → TransactionBytes bs t
unfolding transaction_in
transaction-is bs t h = then-read _ _ t h λ v e k. found v (version-is bs v e) (versions-is 7 v.id v.write.key (v.write ∷ []) v.rest t k)
  where
    found : (v : Version) → VersionBytes bs v → Further 7 v.id v.write.key (v.write ∷ []) v.rest t → TransactionBytes bs t
    found v p f =
        record {
          bytes-are =
              p.bytes-are
              ∙ ap (λ (l : List ℕ). version_command v.id v.write ++ l) f.bytes-are
              ∙ sym (text-parts v.id v.write f.further t.rest)
              ∙ ap (λ (y : Transaction). transaction_text y ++ t.rest) (sym f.taken_is);
          fits =
              subst TransactionFits (sym f.taken_is)
              (record {
                clock-from = p.named.clock-from;
                clock64 = p.named.clock64;
                txn-from = p.named.txn-from;
                txn32 = p.named.txn32;
                some-write = suc-le-suc zero-le;
                writes-fit = suc-le-suc f.few;
                ascends = ascending-cons 0 keys v.write.key (map write_key f.further) zero-le p.fits.key-low f.ascends;
                values = (p.fits.value64, f.values);
              });
        }
