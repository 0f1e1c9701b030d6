-- Parts of one size that lie one after the other (specs/Layout): a loop that reads them, one that writes them.
use Rattle.image.proofs.Names.{ℕ, zero, suc, ◌+◌, ◌*◌, ◌-◌, ◌<◌, ◌≤◌, ◌≡◌, refl, sym, ap, ◌∙◌, List, ◌∷◌, ◌++◌, map, [], append-nil, append_assoc, length, take, drop, get_or, set, length-set, length-drop, drop_of_length-le, take_all, take-suc-set, take_at, drop_at, take-add, take-append-add, drop-cons, drop-drop, length-take-le, mul-suc, mul-le-mul_left, add_comm, arith, add-one, mid_of, put_mid, mid_len, same_len_mid, bytes, flat, parts}

-- ── where a part lies ──
pub next_place : (k i : ℕ) → k * (i + 1) ≡ k * i + k
next_place k i = rw (add-one i) (mul-suc k i)

pub part-is : (b : List ℕ) (a k : ℕ) → take (a + k - a) (drop a b) ≡ take k (drop a b)
part-is b a k =
    let e : a + k - a ≡ k = omega arith in
    ap (λ (m : ℕ). take m (drop a b)) e

pub parts_next : (k n i : ℕ) (b : List ℕ) → i < n → parts k (n - i) (drop (k * i) b) ≡ take k (drop (k * i) b) ∷ parts k (n - (i + 1)) (drop (k * (i + 1)) b)
unfolding parts
parts_next k n i b o =
    let e : n - i ≡ suc (n - (i + 1)) = omega arith in
    rw (e, next_place k i) (ap (λ (x : List ℕ). take k (drop (k * i) b) ∷ parts k (n - (i + 1)) x) (drop-drop k (k * i) b))

pub part_in : (k n i m : ℕ) → i < n → m ≡ k * n → k * i + k ≤ m
part_in k n i m o e =
    let h : i + 1 ≤ n = omega arith in
    omega (arith, mul-le-mul_left k h, next_place k i)

pub part-long : (b : List ℕ) (k n i : ℕ) → i < n → length b ≡ k * n → length (take (k * i + k - k * i) (drop (k * i) b)) ≡ k
part-long b k n i o e = mid_len (k * i) (k * i + k) b (part_in k n i (length b) o e) ∙ omega arith

-- the parts of what is just so long
pub parts-take : (k n : ℕ) (b : List ℕ) → k * n ≤ length b → parts k n (take (k * n) b) ≡ parts k n b
unfolding parts
parts-take k zero b h = refl
parts-take k (suc n) b h =
    let t : length (take k b) ≡ k = length-take-le k b (omega (arith, mul-suc k n)) in
    let e : take (k * suc n) b ≡ take k b ++ take (k * n) (drop k b) = ap (λ (m : ℕ). take m b) (mul-suc k n ∙ add_comm (k * n) k) ∙ take-add k (k * n) b in
    rw (e, take_at (take k b) (take (k * n) (drop k b)) k t, drop_at (take k b) (take (k * n) (drop k b)) k t, parts-take k n (drop k b) (omega (arith, mul-suc k n, length-drop k b)))

pub parts-length : (k n : ℕ) (b : List ℕ) → length (parts k n b) ≡ n
unfolding parts
parts-length k zero b = refl
parts-length k (suc n) b = ap suc (parts-length k n (drop k b))

module _ {A : Type 0} where
  -- ── read one by one ──
  pub record Taken (g : List ℕ → A) (k n : ℕ) (b : List ℕ) (xs : List A) (i : ℕ) : Type 0 where
    pub within : i ≤ n
    pub long : length xs ≡ n
    pub read : take i xs ++ map g (parts k (n - i) (drop (k * i) b)) ≡ map g (parts k n b)

  module _ {g : List ℕ → A} {k n : ℕ} {b : List ℕ} {xs : List A} {i : ℕ} (t : Taken g k n b xs i) where
    pub read_next : (x : A) → i < n → x ≡ g (take (k * i + k - k * i) (drop (k * i) b)) → Taken g k n b (set xs i x) (i + 1)
    read_next x o h = record {
      within = omega arith;
      long = length-set xs i x ∙ t.long;
      read = (rw (sym t.read, parts_next k n i b o, sym (part-is b (k * i) k), sym h, add-one i, take-suc-set xs i x (omega (arith, t.long)), append_assoc));
    }

    pub read-end : n ≤ i → xs ≡ map g (parts k n b)
    unfolding parts
    read-end o =
        let e : n - i ≡ 0 = omega arith in
        sym (take_all i xs (omega (arith, t.long))) ∙ sym (append-nil _) ∙ ap (λ (m : ℕ). take i xs ++ map g (parts k m (drop (k * i) b))) (sym e) ∙ t.read

-- ── written over a part ──
pub put-at : (w y : List ℕ) (a k : ℕ) → a + k ≤ length w → length y ≡ k → take (a + k) (put_mid a k w y) ≡ take a w ++ y
put-at w y a k h l =
    let t : length (take a w) ≡ a = length-take-le a w (omega arith) in
    ap (λ (m : ℕ). take m (put_mid a k w y)) (sym (ap (λ (m : ℕ). m + k) t))
    ∙ take-append-add (take a w) (y ++ drop k (drop a w)) k
    ∙ ap (λ (x : List ℕ). take a w ++ x) (take_at y (drop k (drop a w)) k l)

pub put_front : (w y : List ℕ) (a k : ℕ) → a + k ≤ length w → length y ≡ k → take (a + k) (put_mid a (a + k - a) w y) ≡ take a w ++ y
put_front w y a k h l =
    let e : a + k - a ≡ k = omega arith in
    ap (λ (m : ℕ). take (a + k) (put_mid a m w y)) e ∙ put-at w y a k h l

mid-long : (s : List ℕ) (a k : ℕ) → a + k ≤ length s → length (mid_of a k s) ≡ k
mid-long s a k h =
    let e : a + k - a ≡ k = omega arith in
    ap (λ (m : ℕ). length (mid_of a m s)) (sym e) ∙ mid_len a (a + k) s h ∙ e

-- a number over a part of k bytes
pub number-written : (s y : List ℕ) (a k x : ℕ) → a + k ≤ length s → y ≡ bytes (length (mid_of a k s)) x → y ≡ bytes k x
number-written s y a k x h e = e ∙ ap (λ (n : ℕ). bytes n x) (mid-long s a k h)

-- parts of any lengths, one after the other: a of n bytes are written, and the rest is still to be
pub record Left (w : List ℕ) (a n : ℕ) (rest whole : List ℕ) : Type 0 where
  pub long : length w ≡ n
  pub left : take a w ++ rest ≡ whole

pub put-none : {n : ℕ} {whole : List ℕ} (w : List ℕ) → length w ≡ n → Left w 0 n whole whole
put-none w l = record { long = l; left = refl }

module _ {w : List ℕ} {a n : ℕ} {rest whole : List ℕ} (y : List ℕ) (k : ℕ) (t : Left w a n (y ++ rest) whole) (h : a + k ≤ n) (l : length y ≡ length (mid_of a k w)) where
  pub put_next : Left (put_mid a k w y) (a + k) n rest whole
  put_next = record {
    long = same_len_mid a k w y l ∙ t.long;
    left = ap (λ (x : List ℕ). x ++ rest) (put-at w y a k (omega (arith, t.long)) (l ∙ mid-long w a k (omega (arith, t.long)))) ∙ append_assoc (take a w) y rest ∙ t.left;
  }

pub put_last : {w : List ℕ} {a n : ℕ} {whole : List ℕ} (y : List ℕ) (k : ℕ) → Left w a n y whole → a + k ≡ n → length y ≡ length (mid_of a k w) → put_mid a k w y ≡ whole
put_last {w} {a} {n} {whole} y k t h l =
    let u : Left (put_mid a k w y) (a + k) n [] whole = put_next y k (record { long = t.long; left = ap (λ (x : List ℕ). take a w ++ x) (append-nil y) ∙ t.left }) (omega arith) l in
    sym (take_all (a + k) (put_mid a k w y) (omega (arith, u.long))) ∙ sym (append-nil (take (a + k) (put_mid a k w y))) ∙ u.left

module _ {A : Type 0} where
  -- ── written one by one ──
  pub record Put (f : A → List ℕ) (k n : ℕ) (xs : List A) (w : List ℕ) (i : ℕ) : Type 0 where
    pub within : i ≤ n
    pub many : length xs ≡ n
    pub long : length w ≡ k * n
    pub written : take (k * i) w ++ flat f (drop i xs) ≡ flat f xs

  module _ {f : A → List ℕ} {k n : ℕ} {xs : List A} {w : List ℕ} {i : ℕ} (t : Put f k n xs w i) where
    pub write-next : (y : List ℕ) (d : A) → i < n → length y ≡ length (mid_of (k * i) (k * i + k - k * i) w) → y ≡ f (get_or xs i d) → Put f k n xs (put_mid (k * i) (k * i + k - k * i) w y) (i + 1)
    unfolding flat
    write-next y d o l e =
        let h : k * i + k ≤ length w = part_in k n i (length w) o t.long in
        let q : length y ≡ k = l ∙ part-long w k n i o t.long in
        record {
          within = omega arith;
          many = t.many;
          long = same_len_mid (k * i) (k * i + k - k * i) w y l ∙ t.long;
          written = (rw (sym t.written, next_place k i, put_front w y (k * i) k h q, add-one i, drop-cons xs i d (omega (arith, t.many)), append_assoc, e));
        }

    pub write-end : n ≤ i → w ≡ flat f xs
    unfolding flat
    write-end o =
        let h : length xs ≤ i = omega (arith, t.many) in
        sym (take_all (k * i) w (omega (arith, t.long, mul-le-mul_left k o)))
        ∙ sym (append-nil _)
        ∙ ap (λ (x : List A). take (k * i) w ++ flat f x) (sym (drop_of_length-le xs h))
        ∙ t.written
