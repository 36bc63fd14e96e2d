-- Laws of the definitions of `Classify`.
use Rattle.std.specs.Prelude.{Bool, true, false, cond, ◌&&◌, List, [], ◌∷◌, ◌++◌, ◌≡◌, refl, ℕ, ◌+◌, ◌-◌, ◌*◌, ◌%◌, ◌<◌, ◌≤◌, eqb, leb, ltb, nat_eq, nat_lt, get_or, Option, Some, None, unwrap_or}
use Rattle.std.specs.Char.{to_ascii_uppercase, to_ascii_lowercase}
use Rattle.std.specs.Str.{str_eq_ignore_ascii_case}
use Rattle.std.specs.List.{position_or_len, starts_with}
use Rattle.std.proofs.Common.{ap, sym, ◌∙◌, le-leb, leb-true, leb-false, lt-ltb, ltb-true, ltb-false, eq-eqb, ne_eqb, eqb-true}
use Rattle.std.proofs.lemmas.Bool.{eqb-false, le-ltb, lt-leb}
use Rattle.std.proofs.lemmas.Str.Ascii.{lowercase-uppercase}
use Rattle.std.proofs.lemmas.List.Recursion.{is_position_or_len}
use Rattle.std.proofs.lemmas.Option.{none-some}
use Prim.Native.Char.{Char}
use native.Mathlib.Omega.{arith}
use Rattle.std.proofs.Math.ListN.{length, take}
use Rattle.std.proofs.Math.Seq.{take_all, get_or-take, length-take-le}
use Rattle.ascii.specs.Chars.{upper, upper_is, hex_of, hex_some, hex_none}
use Rattle.base.specs.Choice.{cases}
use Rattle.base.specs.Letters.{letter, letters}
use Rattle.command.specs.Classify.{same_text, index_of, range_texts, range_of, stripped, pid_of, command_of, values_of}
use Rattle.command.specs.declared.Command.{Command}
use Rattle.command.specs.declared.Command.TheVariants.{Range, Pid, Unknown}

-- A command that is known has its class and number.
pub told : {r s : Command} → r ≡ s → (r ≡ s) × (values_of r ≡ values_of s)
told e = (e, ap values_of e)

-- Two texts of different lengths differ.
pub same_length : (xs ys : List ℕ) → (length xs ≡ length ys → ⊥) → same_text xs ys ≡ false
unfolding same_text
same_length [] [] h = absurd (h refl)
same_length [] (y ∷ ys) h = refl
same_length (x ∷ xs) [] h = refl
same_length (x ∷ xs) (y ∷ ys) h =
    let r = same_length xs ys (λ e. h (omega arith)) in rw r (cut (eqb (upper x) (upper y)))
  where
    cut : (b : Bool) → b && false ≡ false
    cut true = refl
    cut false = refl

-- The library compares texts in lower case, with the same answer.
upper_lower : (c : ℕ) → to_ascii_uppercase (to_ascii_lowercase c) ≡ to_ascii_uppercase c
upper_lower c =
    cases _ (nat_lt c 65)
    (λ e. rw e)
    (λ e. let l = ltb-false c 65 e in
    cases _ (nat_lt c 91)
    (λ f. let m = ltb-true c 91 f in
    let z : c + 32 - 32 ≡ c = omega arith in
    rw (e, f, le-ltb (c + 32) 97 (omega arith), lt-ltb (c + 32) 123 (omega arith), lt-ltb c 97 (omega arith), z))
    (λ f. rw (e, f)))

same_case : (x y : ℕ) → nat_eq (to_ascii_lowercase x) (to_ascii_lowercase y) ≡ eqb (upper x) (upper y)
same_case x y =
    cases _ (eqb (upper x) (upper y))
    (λ e. let u : upper x ≡ upper y = eqb-true (upper x) (upper y) e in
    let w : to_ascii_uppercase x ≡ to_ascii_uppercase y = upper_is x ∙ u ∙ sym (upper_is y) in
    let l : to_ascii_lowercase x ≡ to_ascii_lowercase y = sym (lowercase-uppercase x) ∙ ap to_ascii_lowercase w ∙ lowercase-uppercase y in
    rw (e, eq-eqb (to_ascii_lowercase x) (to_ascii_lowercase y) l))
    (λ e. rw (
      e,
      ne_eqb (to_ascii_lowercase x) (to_ascii_lowercase y)
          (λ l. eqb-false (upper x) (upper y) e (sym (upper_is x) ∙ sym (upper_lower x) ∙ ap to_ascii_uppercase l ∙ upper_lower y ∙ upper_is y)),
    ))

same_is : (xs ys : List ℕ) → str_eq_ignore_ascii_case xs ys ≡ same_text xs ys
unfolding same_text
same_is [] [] = refl
same_is [] (y ∷ ys) = refl
same_is (x ∷ xs) [] = refl
same_is (x ∷ xs) (y ∷ ys) = rw (same_case x y, same_is xs ys)

-- Which text it is, as the library looks for it.
index_is : (cmd : List ℕ) (ts : List (List ℕ)) → index_of ts cmd ≡ position_or_len (str_eq_ignore_ascii_case cmd) ts
unfolding index_of
index_is cmd ts =
    is_position_or_len (λ (us : List (List ℕ)). index_of us cmd) (str_eq_ignore_ascii_case cmd) refl
    (λ t us. rw (same_is cmd t) (cases _ (same_text cmd t) (λ e. rw e) (λ e. rw e (omega arith)))) ts

pub range_found : (cmd : List ℕ) (r : Option ℕ)
    → r ≡ cond (ltb (position_or_len (str_eq_ignore_ascii_case cmd) range_texts) 8) (Some (position_or_len (str_eq_ignore_ascii_case cmd) range_texts)) None
    → r ≡ range_of cmd
unfolding range_of
range_found cmd r h =
    let i = sym (index_is cmd range_texts) in
    let g = rw i at h in
    cases _ (ltb (index_of range_texts cmd) 8) (λ e. rw e (rw e at g)) (λ e. rw e (rw e at g))

-- A mode 01 command, by its first two bytes.
same_swapped : (m n : ℕ) → nat_eq m n ≡ eqb n m
same_swapped m n =
    cases _ (eqb n m)
    (λ e. rw (e, eq-eqb m n (sym (eqb-true n m e))))
    (λ e. rw (e, ne_eqb m n (λ f. eqb-false n m e (sym f))))

pub begins_is : (s : List ℕ) (r : Bool) → 4 ≤ length s → r ≡ starts_with nat_eq s (letters "01")
    → (eqb (get_or s 0 0) (letter "0") && eqb (get_or s 1 0) (letter "1")) ≡ r
begins_is [] r h e = absurd (omega arith)
begins_is (a ∷ []) r h e = absurd (omega arith)
begins_is (a ∷ b ∷ s) r h e = rw (e, same_swapped 48 a, same_swapped 49 b) (no_more (eqb a 48) (eqb b 49))
  where
    no_more : (p q : Bool) → (p && q) ≡ (p && (q && true))
    no_more true true = refl
    no_more true false = refl
    no_more false q = refl

-- The cases of a PID.
module _ (s : List ℕ) where
  pub pid_short : length s < 4 → Unknown ≡ pid_of s
  unfolding pid_of
  pid_short h = rw (lt-leb 4 (length s) h)

  module _ (h : 4 ≤ length s) (r : Bool) (e : r ≡ starts_with nat_eq s (letters "01")) where
    begins : (v : Bool) → r ≡ v → (leb 4 (length s) && eqb (get_or s 0 0) (letter "0") && eqb (get_or s 1 0) (letter "1")) ≡ v
    begins v f = rw (le-leb 4 (length s) h) (begins_is s r h e ∙ f)

    pub pid_begins : r ≡ false → Unknown ≡ pid_of s
    unfolding pid_of
    pid_begins f = rw (begins false f)

    module _ (f : r ≡ true) (p : Option ℕ) (hp : p ≡ hex_of (get_or s 2 0)) where
      pub pid_high : p ≡ None → Unknown ≡ pid_of s
      unfolding pid_of
      pid_high g = rw (begins true f, hex_none (get_or s 2 0) p hp g)

      module _ (a : ℕ) (g : p ≡ Some a) (q : Option ℕ) where
        pub pid_low : q ≡ hex_of (get_or s 3 0) → q ≡ None → Unknown ≡ pid_of s
        unfolding pid_of
        pid_low hq k =
            let d = hex_some (get_or s 2 0) p hp a g in
            rw (begins true f, d.0, lt-ltb a 16 d.1, hex_none (get_or s 3 0) q hq k)

        pub pid_both : (b : ℕ) → q ≡ hex_of (get_or s 3 0) → q ≡ Some b → Pid (a * 16 + b) ≡ pid_of s
        unfolding pid_of
        pid_both b hq k =
            let d = hex_some (get_or s 2 0) p hp a g in
            let l = hex_some (get_or s 3 0) q hq b k in
            rw (begins true f, d.0, lt-ltb a 16 d.1, l.0, lt-ltb b 16 l.1)

-- The cases of a command.
module _ (cmd : List ℕ) where
  pub class_range : (r : Option ℕ) (n : ℕ) → r ≡ range_of (stripped cmd) → r ≡ Some n → Range n ≡ command_of cmd
  unfolding command_of range_of
  class_range r n e f =
      cases _ (ltb (index_of range_texts (stripped cmd)) 8)
      (λ t. rw t (ap (λ (o : Option ℕ). Range (unwrap_or o 0)) (sym f ∙ rw t at e)))
      (λ t. absurd (none-some n (sym (rw t at e) ∙ f)))

  pub class_other : (r : Option ℕ) → r ≡ range_of (stripped cmd) → r ≡ None → pid_of (stripped cmd) ≡ command_of cmd
  unfolding command_of range_of
  class_other r e f =
      cases _ (ltb (index_of range_texts (stripped cmd)) 8)
      (λ t. absurd (none-some (index_of range_texts (stripped cmd)) (sym f ∙ rw t at e)))
      (λ t. rw t)

-- A range command has four bytes, once stripped.
index_long : (s : List ℕ) → (length s ≡ 4 → ⊥) → index_of range_texts s ≡ 8
unfolding index_of range_texts
index_long s h =
    simp (differs "0", differs "2", differs "4", differs "6", differs "8", differs "A", differs "C", differs "E")
  where
    differs : (c : Char) → same_text s (letters "01" ++ (letter c ∷ letters "0")) ≡ false
    differs c = same_length s (letters "01" ++ (letter c ∷ letters "0")) h

-- Which PID a command asks for is decided by its first four bytes.
pid_start : (s t : List ℕ) → 4 ≤ length s → 4 ≤ length t → ((i : ℕ) → i < 4 → get_or s i 0 ≡ get_or t i 0) → pid_of s ≡ pid_of t
unfolding pid_of
pid_start s t h k same =
    rw (le-leb 4 (length s) h, le-leb 4 (length t) k, same 0 (omega arith), same 1 (omega arith), same 2 (omega arith), same 3 (omega arith))

module _ (cmd : List ℕ) where
  class_of_long : 6 < length cmd → command_of cmd ≡ command_of (take 6 cmd)
  unfolding command_of stripped
  class_of_long h =
      let n = length cmd - length cmd % 2 in
      let six : length (take 6 cmd) ≡ 6 = length-take-le 6 cmd (omega arith) in
      let even : 6 ≤ n = omega arith in
      let whole : take 6 (take 6 cmd) ≡ take 6 cmd = take_all 6 (take 6 cmd) (omega arith) in
      let s : length (take n cmd) ≡ n = length-take-le n cmd (omega arith) in
      rw (six, whole, index_long (take n cmd) (λ z. omega arith), index_long (take 6 cmd) (λ z. omega arith))
      (pid_start (take n cmd) (take 6 cmd) (omega arith) (omega arith)
      (λ i b. rw (get_or-take n cmd i 0 (omega arith), get_or-take 6 cmd i 0 (omega arith))))

  -- A command of more than six bytes asks for what its first six ask for.
  pub class_of_six : command_of cmd ≡ command_of (take 6 cmd)
  class_of_six =
      cases _ (leb (length cmd) 6)
      (λ e. ap command_of (sym (take_all 6 cmd (leb-true _ _ e))))
      (λ e. class_of_long (leb-false _ _ e))
