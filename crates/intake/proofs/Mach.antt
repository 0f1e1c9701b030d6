-- A station, a line, an answer and an outcome as the machine has them, and a local that holds a station.
--     mach_s, mach_l, mach_n, mach_o      the machine value of a station, of a line, of an answer and of an outcome
--     is-answer, is-station, is-outcome    an outcome's relation is its fields'
--     typed_s, typed_l, typed_n, typed_o   the machine value has the MIR type
--     into-memory, out-of-memory       a local that holds a station is a station in memory, which can be lent, and back
-- The last five take `Logic`. The rest assumes nothing.
use Prim.Native.Nat.{ℕ}
use mathlib.Core.List.{[], ◌∷◌, List}
use lib.Dec.{T as Holds}
use seplogic.Ra.Ura.{Ura}
use base.Fraction.{full_share}
use mir.Val.{Val, WT, has_ty}
use base.Logic.{ent, guard_i}
use base.Fml.{fsep, fat}
use types.Logic.{Logic, sem}
use types.Kit.{‵, given, mean, ◌$◌, ◌∵◌, !, qed, move, keep, use1, fsplit, fjoin, fpick, fpack, done}
use denote.Memory.{cell_at, mem, part_of}
use denote.Laws.{Is, shows}
use denote.Steps.{owned, peeks}
use denote.Struct.Steps.{spelt}
use denote.Struct.Laws as LL
use denote.Enum.Laws as EL
use Rattle.model.specs.declared.Answer.{Answer}
use Rattle.model.specs.declared.Station.{Station}
use Rattle.desk.specs.declared.Request.{Request}
use Rattle.model.specs.declared.Outcome.{Outcome}
use Rattle.model.specs.contracts.Answer as N
use Rattle.model.proofs.Answer.TheLaws as N'
use Rattle.model.specs.contracts.Station as S
use Rattle.model.proofs.Station.TheLaws as S'
use Rattle.desk.specs.contracts.Request as L
use Rattle.desk.proofs.Request.TheLaws as L'
use Rattle.model.specs.contracts.Outcome as O
use Rattle.model.proofs.Outcome.TheLaws as O'

abbrev pub mach_s : Station → Val
mach_s = LL.val S.the_type S'.the_laws

abbrev pub mach_l : Request → Val
mach_l = LL.val L.the_type L'.the_laws

abbrev pub mach_n : Answer → Val
mach_n = EL.val N.the_type N'.the_laws

abbrev pub mach_o : Outcome → Val
mach_o = LL.val O.the_type O'.the_laws

abbrev pub IsS : Station → Type 0
IsS z = Is S.the_row z (mach_s z ∷ [])

abbrev pub IsL : Request → Type 0
IsL z = Is L.the_row z (mach_l z ∷ [])

abbrev pub IsN : Answer → Type 0
IsN z = Is N.the_row z (mach_n z ∷ [])

abbrev pub IsO : Outcome → Type 0
IsO z = Is O.the_row z (mach_o z ∷ [])

pub is-answer : (r : Outcome) (w : Val) → Is O.the_row r (w ∷ []) → IsN r.answer
is-answer r w is = (LL.owed O.the_type O'.the_laws r _ is).1.0

pub is-station : (r : Outcome) (w : Val) → Is O.the_row r (w ∷ []) → IsS r.station
is-station r w is = (LL.owed O.the_type O'.the_laws r _ is).0

pub is-outcome : (r : Outcome) → IsN r.answer → IsS r.station → IsO r
is-outcome r n s = LL.owes O.the_type O'.the_laws r (s, (n, tt))

module _ {M : Type 1} {𝓤 : Ura M} (𝓛 : Logic 𝓤) where
  pub typed_s : (z : Station) → IsS z → Holds (has_ty S'.mir (mach_s z)) × WT (mach_s z)
  typed_s z g = ((LL.lawful S.the_type S'.the_laws 𝓛).typed z _ g).0

  pub typed_l : (z : Request) → IsL z → Holds (has_ty L'.mir (mach_l z)) × WT (mach_l z)
  typed_l z g = ((LL.lawful L.the_type L'.the_laws 𝓛).typed z _ g).0

  pub typed_n : (z : Answer) → IsN z → Holds (has_ty N'.mir (mach_n z)) × WT (mach_n z)
  typed_n z g = ((EL.lawful N.the_type N'.the_laws 𝓛 tt).typed z _ g).0

  pub typed_o : (z : Outcome) → IsO z → Holds (has_ty O'.mir (mach_o z)) × WT (mach_o z)
  typed_o z g = ((LL.lawful O.the_type O'.the_laws 𝓛).typed z _ g).0

  pub into-memory : (z : Station) (b : ℕ) → IsS z → ent 𝓤 (sem 𝓛 (fat full_share S'.mir b 0 (mach_s z))) (sem 𝓛 ((mem S.the_row).own_at z b 0))
  unfolding part_of
  into-memory z b g =
      qed 𝓛 (‵ (fat full_share S'.mir b 0 (mach_s z)) ∷ []) ∵ use1 𝓛 (‵ (cell_at full_share (S.the_row).mir (mach_s z ∷ []) b 0)) (𝓛.laws.at_raw full_share S'.mir b 0 (mach_s z)) $
      owned ! S.the_row (Is S.the_row) (LL.makes S.the_type S'.the_plain 𝓛) z _ g $ move ! (1 ∷ 0 ∷ []) $ fjoin ! $
      fpack ! (List Val) (λ us. fsep (cell_at full_share (S.the_row).mir us b 0) ((S.the_row).own_val z us)) (mach_s z ∷ []) $ done !

  pub out-of-memory : (z : Station) (b : ℕ) → ent 𝓤 (sem 𝓛 ((mem S.the_row).own_at z b 0)) (mean 𝓛 (given (IsS z) (‵ (fat full_share S'.mir b 0 (mach_s z)))))
  unfolding part_of
  out-of-memory z b =
      qed 𝓛 (‵ ((mem S.the_row).own_at z b 0) ∷ []) ∵ fpick ! (λ vs. fsplit ! $ spelt ! S.the_row (Is S.the_row) (shows 𝓛 S.the_row) (LL.vals S.the_type S'.the_laws) (LL.tells S.the_type S'.the_laws) full_share z vs b 0 $
      move ! (1 ∷ []) $ peeks ! S.the_row (Is S.the_row) (shows 𝓛 S.the_row) z (mach_s z ∷ []) (λ g. keep ! (1 ∷ []) $ use1 𝓛 (‵ (fat full_share S'.mir b 0 (mach_s z))) (𝓛.laws.raw_at full_share S'.mir b 0 (mach_s z)) $
      use1 𝓛 (given (IsS z) (‵ (fat full_share S'.mir b 0 (mach_s z)))) (guard_i 𝓤 (IsS z) (sem 𝓛 (fat full_share S'.mir b 0 (mach_s z))) g) $ done !))
