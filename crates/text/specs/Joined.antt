-- Texts put one behind the other from the start of the memory, each of which finds room, are one text.
use Rattle.std.specs.Prelude.{List, [], ◌++◌, ◌≡◌, refl, ℕ, ◌+◌, ◌≤◌, length, take}
use Rattle.std.proofs.Common.{sym, ◌∙◌, arith, length-append}
use Rattle.base.specs.Write.{over, over_none, over_length, over_over, take_over}
use Rattle.text.specs.Put.{put_of, put_end, put_fits, end_fits}

-- The text t stands at the start of what was the memory d, and the place is behind it.
pub record Joined (d t : List ℕ) (place : ℕ) (out : List ℕ) : Type 0 where
  pub place_is : place ≡ length t
  pub out_is : out ≡ over d 0 t

pub joined_none : (d : List ℕ) → Joined d [] 0 d
joined_none d = record { place_is = refl; out_is = sym (over_none d 0) }

module _ (d t : List ℕ) (place : ℕ) (out : List ℕ) (j : Joined d t place out) where
  pub joined_next : (s : List ℕ) (r : ℕ) (o : List ℕ) → length t + length s ≤ length d → r ≡ put_end out place s → o ≡ put_of out place s → Joined d (t ++ s) r o
  joined_next s r o h e f =
      let p = j.place_is in
      let z : 0 + length t ≡ place = omega arith in
      let l : length out ≡ length d = rw j.out_is (over_length d 0 t (omega arith)) in
      let w = rw z at (over_over d 0 t (omega arith) s) in
      record {
        place_is = rw length-append (omega (arith, e ∙ end_fits out place s (omega arith)));
        out_is = f ∙ put_fits out place s (omega arith) ∙ rw j.out_is w;
      }

  -- the place lies within the memory, and what stands before it is the text
  pub joined_whole : length t ≤ length d → (place ≤ length out) × (take place out ≡ t)
  joined_whole h =
      let p = j.place_is in
      let z : place ≡ 0 + length t = omega arith in
      let l : length out ≡ length d = rw j.out_is (over_length d 0 t (omega arith)) in
      (omega arith, rw (j.out_is, z) (take_over d 0 t (omega arith)))
