-- A version's command is read back from its bytes, and from no others; a commit's is no version's.
use Prim.Native.Nat.{ℕ, ◌<◌}
use mathlib.Core.Path.{◌≡◌, refl, sym, ap, ap₂, subst, ◌∙◌}
use mathlib.Core.List.{List, ◌++◌, append_assoc}
use mathlib.Core.Option.{some, none, some-injective}
use lib.ListN.{length, length-append}
use native.Mathlib.Omega.{arith}
use Rattle.model.specs.declared.Id.{Id}
use Rattle.model.specs.Types.{Write}
use Rattle.model.specs.Limits.{keys, number_range}
use Rattle.decimal.specs.Digits.{digits}
use Rattle.decimal.proofs.ReadLaws.{read_below}
use Rattle.decimal.proofs.DigitLaws.{count-below}
use Rattle.decimal.proofs.RoundTrip.{read-digits}
use Rattle.resp.specs.Streams.{bulk, set_begins, set_command, version_name, version_command, commit_name, keys_text, commit_command}
use Rattle.resp.specs.Inverse.{◌then◌, Bulk, Name, name_in, Version, valued, version_in}
use Rattle.resp.proofs.LengthLaws.{set-begins}
use Rattle.resp.proofs.ThenLaws.{then_some, then-none, then-read}
use Rattle.resp.proofs.RestLaws.{after-own, after_is, number_is}
use Rattle.resp.proofs.BulkBack.{bulk-back, bulk-is}
use Rattle.resp.proofs.NameBack.{IdNamed, NameBytes, name_back, name-other, name-is, version-short, commit-short}

-- a write of a stream
pub record WriteFits (w : Write) : Type 0 where
  pub key-low : w.key < keys
  pub value64 : w.value < number_range

-- a command's bytes and those after it, one part after the other
command-parts : (name value r : List ℕ) → set_command name value ++ r ≡ set_begins ++ (bulk name ++ (bulk value ++ r))
unfolding set_command
command-parts name value r = append_assoc set_begins (bulk name ++ bulk value) r ∙ ap (λ (l : List ℕ). set_begins ++ l) (append_assoc (bulk name) (bulk value) r)

-- ── written, then read ──
-- what a command is read as: what its name is, and its value after it
command-read : (name value r : List ℕ) → length name < number_range → version_in (set_command name value ++ r) ≡ (name_in name then λ n. valued n (bulk value ++ r))
unfolding version_in
command-read name value r o =
    ap version_in (command-parts name value r)
    ∙ then_some _ _ (bulk name ++ (bulk value ++ r)) (after-own set_begins _)
    ∙ then_some _ _ (record { content = name; rest = bulk value ++ r }) (bulk-back name _ o)

value-back : (n : Name) (v : ℕ) (r : List ℕ) → v < number_range → valued n (bulk (digits v) ++ r) ≡ some (record { id = n.id; write = record { key = n.key; value = v }; rest = r })
unfolding valued
value-back n v r o =
    then_some _ _ (record { content = digits v; rest = r }) (bulk-back (digits v) r (omega (arith, count-below 19 v (omega arith)))) ∙ then_some _ _ v (read-digits number_range v o)

pub version-back : (i : Id) (w : Write) (r : List ℕ) → IdNamed i → WriteFits w → version_in (version_command i w ++ r) ≡ some (record { id = i; write = w; rest = r })
unfolding version_command
version-back i w r h k =
    command-read (version_name w.key i) (digits w.value) r (omega (arith, version-short w.key i k.key-low h))
    ∙ then_some _ _ (record { key = w.key; id = i }) (name_back w.key i k.key-low h)
    ∙ value-back (record { key = w.key; id = i }) w.value r k.value64

-- "c" is not "v"
pub commit-other : (i : Id) (ks r : List ℕ) → IdNamed i → version_in (commit_command i ks ++ r) ≡ none
unfolding commit_command
commit-other i ks r h = command-read (commit_name i) (keys_text ks) r (omega (arith, commit-short i h)) ∙ then-none _ _ (name-other i)

-- ── read: so it was written ──
pub record VersionBytes (bs : List ℕ) (v : Version) : Type 0 where
  pub bytes-are : bs ≡ version_command v.id v.write ++ v.rest
  pub named : IdNamed v.id
  pub fits : WriteFits v.write

-- a value after a name
abbrev ValueBytes : Name → List ℕ → Version → Type 0
ValueBytes n bs v = (bs ≡ bulk (digits v.write.value) ++ v.rest) × (v.write.value < number_range) × (v.id ≡ n.id) × (v.write.key ≡ n.key)

valued-is : (n : Name) (bs : List ℕ) (v : Version) → valued n bs ≡ some v → ValueBytes n bs v
unfolding valued
valued-is n bs v h =
    then-read _ _ v h λ b eb h₁. then-read _ _ v h₁ λ x ex h₂.
    subst (ValueBytes n bs) (some-injective _ v h₂) (found b x (bulk-is bs b eb).bytes-are (number_is number_range b.content x ex) (read_below number_range _ x ex))
  where
    found : (b : Bulk) (x : ℕ) → bs ≡ bulk b.content ++ b.rest → b.content ≡ digits x → x < number_range
        → ValueBytes n bs (record { id = n.id; write = record { key = n.key; value = x }; rest = b.rest })
    found b x e₁ e₂ o = (e₁ ∙ ap (λ (l : List ℕ). bulk l ++ b.rest) e₂, o, refl, refl)

pub version-is : (bs : List ℕ) (v : Version) → version_in bs ≡ some v → VersionBytes bs v
unfolding version_in version_command
version-is bs v h =
    then-read _ _ v h λ a ea h₁. then-read _ _ v h₁ λ b eb h₂. then-read _ _ v h₂ λ n en h₃.
    found a b n (after_is set_begins bs a ea) (bulk-is a b eb).bytes-are (name-is b.content n en) (valued-is n b.rest v h₃)
  where
    found : (a : List ℕ) (b : Bulk) (n : Name) → bs ≡ set_begins ++ a → a ≡ bulk b.content ++ b.rest → NameBytes b.content n → ValueBytes n b.rest v → VersionBytes bs v
    found a b n e₁ e₂ p q =
        let name : b.content ≡ version_name v.write.key v.id = p.bytes-are ∙ ap₂ version_name (sym q.3) (sym q.2) in
        record {
          bytes-are =
              e₁
              ∙ ap (λ (l : List ℕ). set_begins ++ l) (e₂ ∙ ap₂ (λ (x y : List ℕ). bulk x ++ y) name q.0)
              ∙ sym (command-parts (version_name v.write.key v.id) (digits v.write.value) v.rest);
          named = subst IdNamed (sym q.2) p.named;
          fits = record { key-low = subst (λ (k : ℕ). k < keys) (sym q.3) p.key-low; value64 = q.1 };
        }

-- what comes after it is shorter
pub version-shorter : (bs : List ℕ) (v : Version) → version_in bs ≡ some v → length v.rest < length bs
unfolding version_command set_command
version-shorter bs v h =
    let b : List ℕ = bulk (version_name v.write.key v.id) ++ bulk (digits v.write.value) in
    let e = ap length (version-is bs v h).bytes-are in
    omega (arith, e, length-append (set_begins ++ b) v.rest, length-append set_begins b, ap length set-begins)
