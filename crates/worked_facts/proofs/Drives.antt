-- A worked example of two drives.
use Rattle.std.proofs.Common.{◌≡◌, ℕ, Bool, true, ◌&&◌, ◌||◌, eqb, leb, ap, ◌∙◌}
use Rattle.std.proofs.lemmas.Bool.{and_parts, leb-true}
use Rattle.rows.specs.declared.drive.Drive.{Drive}
use Rattle.rows.specs.declared.drive.Direction.{Direction}
use Rattle.rows.specs.Kinds.{code, drive_same}
use Rattle.rows.specs.Drives.{Is}
use Rattle.worked_facts.specs.Cases.{Holds, same_drives}
use Rattle.worked_facts.proofs.Tests.{same_bool, same_bool_eq}

-- `drive-same` of two drives, by their numbers
abbrev same_by : ℕ → ℕ → ℕ → ℕ → Bool
same_by c h d k = (eqb c 0 && eqb d 0) || (eqb c d && eqb h k)

same_by_is : (c h d k : ℕ) (x y : Drive) → Is c h x → Is d k y → drive_same x y ≡ same_by c h d k
same_by_is c h d k x y p q =
    ap (λ a. same_by a x.hold (code y.direction) y.hold) p.0
    ∙ ap (λ a. same_by c a (code y.direction) y.hold) p.1
    ∙ ap (λ a. same_by c h a y.hold) q.0
    ∙ ap (λ a. same_by c h d a) q.1

abbrev pub drives_test : Direction → ℕ → Direction → ℕ → Bool → Bool
drives_test d h e k same = leb h 99 && leb k 99 && same_bool (same_by (code d) h (code e) k) same

pub drives_hold : (d : Direction) (h : ℕ) (e : Direction) (k : ℕ) (same : Bool) → drives_test d h e k same ≡ true → Holds (same_drives d h e k same)
drives_hold d h e k same t =
    let both = and_parts (leb h 99 && leb k 99) (same_bool (same_by (code d) h (code e) k) same) t in
    let held = and_parts (leb h 99) (leb k 99) both.0 in (
      leb-true h 99 held.0,
      leb-true k 99 held.1,
      (λ x y p q. same_by_is (code d) h (code e) k x y p q ∙ same_bool_eq (same_by (code d) h (code e) k) same both.1),
    )
