-- Of a sound station's entries, newest first, those kept are those that may be collected.
use Prim.Native.Nat.{ℕ, ◌<◌}
use mathlib.Core.Path.{◌≡◌, refl, sym, ap, subst, ◌∙◌}
use mathlib.Core.Logic.{⊎_elim}
use mathlib.Core.Bool.{Bool, true, false, not, true≢false}
use mathlib.Core.List.{List}
use lib.Dec.{eqb}
use lib.ListN.{length, take, get_or, length-take}
use lib.Seq.{get_or-take}
use native.Mathlib.Decide.{ℕ_discrete, dec_lt}
use native.Mathlib.Omega.{arith}
use borrow.Author.Tests.{ne_eqb}
use Rattle.model.specs.declared.Id.{Id}
use Rattle.model.specs.Types.{Entry, Station}
use Rattle.model.specs.Lists.{◌and◌, all, any}
use Rattle.model.specs.Limits.{entry_places}
use Rattle.model.specs.Ids.{older, same_id}
use Rattle.model.specs.Lives.{reads_of}
use Rattle.model.specs.Entries.{no_entry, keys_of, wrote}
use Rattle.model.specs.Stations.{entry_at}
use Rattle.model.specs.Sound.{sound}
use Rattle.model.specs.Supersedence.{newer_on, superseded, is_read_by, is_read}
use Rattle.model.specs.Sweep.{may_collect}
use Rattle.model.proofs.Tests.{and_left, and_right, and_intro, bool_cases, not_of_false, same_test}
use Rattle.model.proofs.ListLaws.{any-finds, any_at}
use Rattle.model.proofs.IdLaws.{older-irrefl, older-total}
use Rattle.model.proofs.StationLaws.{entry-get}
use Rattle.model.proofs.SoundFacts.{one-slot, wrote-held}
use Rattle.reading.specs.Columns.{nth_entry, Column, id_at, IsOrder, has_id}
use Rattle.sweeping.specs.Marks.{Marked}
use Rattle.sweeping.specs.Sifted.{wrote_before, keeps, AreSifted}
use Rattle.sweeping.specs.Order.{AreToCollect}

-- what is known of the columns, the order and the marks
pub record Ordered (st : Station) (hs : List Bool) (cs ts : List ℕ) (n : ℕ) (xs : List ℕ) (read : List Bool) : Type 0 where
  pub right : sound st ≡ true
  pub long : length st.entries ≡ entry_places
  pub held : Column (λ e. not (eqb e.id.txn 0)) false st.entries hs
  pub clocks : Column (λ e. e.id.clock) 0 st.entries cs
  pub txns : Column (λ e. e.id.txn) 0 st.entries ts
  pub rows : length xs ≡ entry_places
  pub order : IsOrder hs cs ts entry_places n xs
  pub read_by : Marked (λ d. any (λ l. has_id (reads_of l) (id_at cs ts d)) st.live) entry_places read

module _ (st : Station) (hs : List Bool) (cs ts : List ℕ) (n : ℕ) (xs : List ℕ) (read : List Bool) (o : Ordered st hs cs ts n xs read) where
  abbrev es : List Entry
  es = st.entries

  -- the entry of a row
  abbrev row : ℕ → Entry
  row i = entry_at st (get_or xs i 0)

  low : (i : ℕ) → i < n → get_or xs i 0 < entry_places
  low i u = (o.order.marked i u).0

  is-held : (i : ℕ) → i < n → not (eqb (row i).id.txn 0) ≡ true
  unfolding entry_at
  is-held i u = sym (o.held (get_or xs i 0) (low i u)) ∙ (o.order.marked i u).1

  row-id : (d : ℕ) → d < entry_places → id_at cs ts d ≡ (entry_at st d).id
  unfolding entry_at
  row-id d u = λ z. record { clock = o.clocks d u z; txn = o.txns d u z }

  newest-first : (i j : ℕ) → i < j → j < n → older (row i).id (row j).id ≡ false
  newest-first i j u v = subst (λ (x : Id). older x (row j).id ≡ false) (row-id (get_or xs i 0) (low i (omega arith)))
      (subst (λ (y : Id). older (id_at cs ts (get_or xs i 0)) y ≡ false) (row-id (get_or xs j 0) (low j v)) (o.order.newest-first i j u v))

  -- the row of an entry that wrote a key
  row_of : (d k : ℕ) → d < entry_places → wrote (entry_at st d) k ≡ true → (i : ℕ) × (i < n) × (get_or xs i 0 ≡ d)
  unfolding entry_at
  row_of d k u w = o.order.every d u (o.held d u ∙ not_of_false _ (ne_eqb _ 0 (wrote-held st o.right d k w)))

  module _ (i : ℕ) (u : i < n) (k : ℕ) where
    -- a newer entry that wrote the key is a row before
    newer-before : newer_on es (row i) k ≡ true → wrote_before es xs i k ≡ true
    unfolding newer_on wrote_before
    newer-before h = go (dec_lt r.0 i)
      where
        f : (c : ℕ) × (c < length es) × ((wrote (get_or es c no_entry) k and older (row i).id (get_or es c no_entry).id) ≡ true)
        f = any-finds (λ x. wrote x k and older (row i).id x.id) es no_entry h

        g : (wrote (entry_at st f.0) k and older (row i).id (entry_at st f.0).id) ≡ true
        g = subst (λ (x : Entry). (wrote x k and older (row i).id x.id) ≡ true) (entry-get st f.0 f.1) f.2

        r : (j : ℕ) × (j < n) × (get_or xs j 0 ≡ f.0)
        r = row_of f.0 k (omega (arith, f.1, o.long)) (and_left _ _ g)

        newer : older (row i).id (row r.0).id ≡ true
        newer = subst (λ (d : ℕ). older (row i).id (entry_at st d).id ≡ true) (sym r.2) (and_right _ _ g)

        go : Dec (r.0 < i) → any (λ x. wrote (nth_entry es x) k) (take i xs) ≡ true
        go (yes v) =
            let l : r.0 < length (take i xs) = omega (arith, v, u, length-take i xs, o.rows, o.order.fits) in
            any_at (λ x. wrote (nth_entry es x) k) (take i xs) 0 r.0 l
            (rw (get_or-take i xs r.0 0 v, r.2) (unfold entry_at in and_left _ _ g))
        go (no v) = absurd (true≢false (sym newer ∙ later (ℕ_discrete i r.0)))
          where
            later : Dec (i ≡ r.0) → older (row i).id (row r.0).id ≡ false
            later (yes e) = subst (λ (j : ℕ). older (row i).id (row j).id ≡ false) e (older-irrefl (row i).id)
            later (no e) = newest-first i r.0 (omega arith) r.1

    before-newer : wrote_before es xs i k ≡ true → newer_on es (row i) k ≡ true
    unfolding newer_on wrote_before
    before-newer h = any_at (λ x. wrote x k and older (row i).id x.id) es no_entry d inside (subst (λ (x : Entry). (wrote x k and older (row i).id x.id) ≡ true) (sym (entry-get st d inside)) (and_intro _ _ w newer))
      where
        f : (j : ℕ) × (j < length (take i xs)) × (wrote (nth_entry es (get_or (take i xs) j 0)) k ≡ true)
        f = any-finds (λ x. wrote (nth_entry es x) k) (take i xs) 0 h

        v : f.0 < i
        v = omega (arith, f.1, length-take i xs)

        d : ℕ
        d = get_or xs f.0 0

        inside : get_or xs f.0 0 < length es
        inside = let a = low f.0 (omega (arith, v)) in omega (arith, a, o.long)

        w : wrote (entry_at st (get_or xs f.0 0)) k ≡ true
        w = unfold entry_at in subst (λ (x : ℕ). wrote (nth_entry es x) k ≡ true) (get_or-take i xs f.0 0 v) f.2

        newer : older (row i).id (row f.0).id ≡ true
        newer = ⊎_elim (λ y. y) (λ y. absurd (o.order.once f.0 i v u
            (one-slot st o.right (get_or xs f.0 0) (get_or xs i 0) (ap (λ (x : Id). x.txn) (older-total (row f.0).id (row i).id (newest-first f.0 i v u) y)) (wrote-held st o.right (get_or xs f.0 0) k w))))
            (bool_cases (older (row i).id (row f.0).id))

  -- so it is superseded where all that it wrote stand in rows before
  superseded-before : (i : ℕ) → i < n → superseded es (row i) ≡ all (wrote_before es xs i) (keys_of (row i))
  unfolding superseded
  superseded-before i u = λ z. all (λ k. same_test _ _ (newer-before i u k) (before-newer i u k) z) (keys_of (row i))

  is_read_lem : (d : ℕ) → d < entry_places → get_or read d false ≡ is_read st (entry_at st d)
  unfolding is_read is_read_by has_id
  is_read_lem d u = o.read_by d u ∙ ap (λ (x : Id). any (λ l. any (λ r. same_id x r.id) (reads_of l)) st.live) (row-id d u)

  -- a row that is kept may be collected
  keeps-may : (i : ℕ) → i < n → keeps es xs read i ≡ may_collect st (row i)
  unfolding keeps may_collect entry_at
  keeps-may i u = (λ z. sym (superseded-before i u) z and not (is_read_lem (get_or xs i 0) (low i u) z))
      ∙ sym (ap (λ (b : Bool). b and superseded es (row i) and not (is_read st (row i))) (is-held i u) ∙ (unfold ◌and◌ in refl))

  held-mark : (d : ℕ) → d < entry_places → may_collect st (entry_at st d) ≡ true → get_or hs d false ≡ true
  unfolding may_collect entry_at
  held-mark d u h = o.held d u ∙ and_left _ _ (and_left _ _ h)

  pub to-collect : (m : ℕ) (ys : List ℕ) → AreSifted es xs read n m ys → AreToCollect st m ys
  to-collect m ys s = record {
    fits = omega (arith, s.fits, o.order.fits);
    may = λ j u. rw (s.is j u) (low (s.row j) (s.inside j u), sym (keeps-may (s.row j) (s.inside j u)) ∙ s.kept j u);
    every = λ d u h. found d u h;
    once = λ i j u v. rw (s.is i (omega arith), s.is j v) (o.order.once (s.row i) (s.row j) (s.rises i j u v) (s.inside j v));
    newest-first = λ i j u v. rw (s.is i (omega arith), s.is j v) (newest-first (s.row i) (s.row j) (s.rises i j u v) (s.inside j v));
  }
    where
      found : (d : ℕ) → d < entry_places → may_collect st (entry_at st d) ≡ true → (j : ℕ) × (j < m) × (get_or ys j 0 ≡ d)
      found d u h =
          let r = o.order.every d u (held-mark d u h) in
          let k = s.every r.0 r.1 (keeps-may r.0 r.1 ∙ (ap (λ (x : ℕ). may_collect st (entry_at st x)) r.2 ∙ h)) in
          (k.0, k.1, s.is k.0 k.1 ∙ (ap (λ (x : ℕ). get_or xs x 0) k.2 ∙ r.2))
