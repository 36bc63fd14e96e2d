-- Single rounds by themselves: what completed rounds ask, from each stage of an open one. The fast list has a PID in all of them, or
-- in none.
use Rattle.std.specs.Prelude.{Bool, true, false, List, [], ◌∷◌, ◌++◌, ◌≡◌, ℕ, max, leb}
use Rattle.std.proofs.Common.{append-nil}
use Rattle.base.specs.Choice.{pick}
use Rattle.base.specs.Count.{more_of}
use Rattle.config.specs.declared.Settings.{Settings}
use Rattle.pid_list.specs.Rules.{found, pid_of, next_of}
use Rattle.pid_list.specs.declared.PidList.{PidList}
use Rattle.round_robin.specs.Marks.{Mark, aside, rounds_in}

-- No round is open; the round's first step is next; the slow test is next, or the fast result due; the end is next.
pub data Stage : Type 0 where
  idle : Stage
  first : Stage
  test : Stage
  over : Stage

-- The fast requests at which the slow test passes in Ratio mode: none where the fast list is empty, for then it always passes.
abbrev pub wanted : Settings → Bool → ℕ
wanted st nofast = pick nofast 0 st.ratio

-- In so many rounds the test passes at least once.
abbrev pub stretch : Settings → Bool → ℕ
stretch st nofast = max 1 (wanted st nofast)

-- What a round asks before its slow test, and the fast requests then.
abbrev pub firstly : Bool → PidList → List ℕ
firstly true f = []
firstly false f = pid_of (next_of f) ∷ []

abbrev pub counted : Bool → ℕ → ℕ
counted true r = r
counted false r = more_of r

module _ (st : Settings) (nofast : Bool) where
  -- What the slow test finds: in Ratio mode it goes by the fast requests.
  abbrev pub Finds : ℕ → Bool → Type 0
  Finds r b = (st.mode ≡ 0 → ⊥) → leb (wanted st nofast) r ≡ b

  -- A slow test with r fast requests: what is asked, and the slow list and the fast requests after it.
  pub data Test : PidList → ℕ → List ℕ → PidList → ℕ → Type 0 where
    passed : {l : PidList} {r : ℕ} → Finds r true → found (next_of l) ≡ true → Test l r (pid_of (next_of l) ∷ []) (next_of l).list 0
    unsent : {l : PidList} {r : ℕ} → Finds r true → found (next_of l) ≡ false → Test l r [] (next_of l).list 0
    failed : {l : PidList} {r : ℕ} → Finds r false → Test l r [] l r

  -- Rounds of which the first asks xs, then makes its test with r fast requests; those behind it ask the entries of f from its
  -- index on.
  pub data Tests : List ℕ → PidList → PidList → ℕ → List (List ℕ) → Type 0 where
    none : {xs : List ℕ} {f l : PidList} {r : ℕ} → Tests xs f l r []
    more : {xs ys : List ℕ} {f l m : PidList} {r n : ℕ} {rs : List (List ℕ)} → Test l r ys m n → Tests (firstly nofast f) (next_of f).list m (counted nofast n) rs → Tests xs f l r ((xs ++ ys) ∷ rs)

  -- A round that asks no more than xs, and those behind it.
  pub data After : List ℕ → PidList → PidList → ℕ → List (List ℕ) → Type 0 where
    none : {xs : List ℕ} {f l : PidList} {r : ℕ} → After xs f l r []
    more : {xs : List ℕ} {f l : PidList} {r : ℕ} {rs : List (List ℕ)} → Tests (firstly nofast f) (next_of f).list l (counted nofast r) rs → After xs f l r (xs ∷ rs)

  pub tested : {xs ys : List ℕ} {f l m : PidList} {r n : ℕ} {rs : List (List ℕ)} → Test l r ys m n → After (xs ++ ys) f m n rs → Tests xs f l r rs
  tested t After.none = Tests.none
  tested t (After.more k) = Tests.more t k

  -- A test at which nothing is asked.
  pub silent : {xs : List ℕ} {f l m : PidList} {r n : ℕ} {rs : List (List ℕ)} → Test l r [] m n → Tests (firstly nofast f) (next_of f).list m (counted nofast n) rs → Tests xs f l r (xs ∷ rs)
  silent {xs = xs} t k = rw (append-nil xs) at (Tests.more {xs = xs} t k)

  -- The rounds of the marks that follow, from a stage, the fast list, the slow list and the fast requests.
  abbrev pub Ahead : Stage → PidList → PidList → ℕ → List Mark → Type 0
  Ahead idle f l r ms = Tests (firstly nofast f) (next_of f).list l (counted nofast r) (rounds_in [] ms)
  Ahead first f l r ms = Tests (firstly nofast f) (next_of f).list l (counted nofast r) (rounds_in [] ms)
  Ahead test f l r ms = (xs : List ℕ) → Tests xs f l r (rounds_in xs ms)
  Ahead over f l r ms = (xs : List ℕ) → After xs f l r (rounds_in xs ms)

  module _ (f l : PidList) (r : ℕ) where
    pub stop : (g : Stage) → Ahead g f l r []
    unfolding rounds_in
    stop idle = Tests.none
    stop first = Tests.none
    stop test = λ _. Tests.none
    stop over = λ _. After.none

    pub rest : (g : Stage) (ms : List Mark) → Ahead g f l r ms → Ahead g f l r (aside ∷ ms)
    unfolding rounds_in
    rest idle ms k = k
    rest first ms k = k
    rest test ms k = k
    rest over ms k = k
