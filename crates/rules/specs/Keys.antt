-- The key by which rules are put in order, and the parts of an order.
use Rattle.std.specs.Prelude.{◌≡◌, ℕ, suc, ◌+◌, ◌<◌, ◌≤◌, Bool, true, false, ◌&&◌, ◌||◌, List, length, map, ◌==◌, count_by}
use Rattle.std.specs.List.{list_any, position_or_len, range_with_len}
use Rattle.std.specs.Ordering.{is_lt, nat_cmp, ordering_then}
use Rattle.std.specs.declared.cmp.Ordering.{Ordering}
use Rattle.rules.specs.declared.group.Group.{Group}
use Rattle.terms.specs.declared.numbers.RuleNo.{RuleNo}
use Rattle.rules.specs.Words.{number_at, at, start_of, end_of, ringed_at, Holds}

-- The numbers of n rules.
abbrev pub numbers : ℕ → List RuleNo
numbers n = map (λ k. record { 0 = k }) (range_with_len 1 n)

-- A key is three numbers, which are compared in turn.
abbrev pub Key : Type 0
Key = ℕ × ℕ × ℕ

abbrev pub key_cmp : Key → Key → Ordering
key_cmp a b = ordering_then (ordering_then (nat_cmp a.0 b.0) (nat_cmp a.1 b.1)) (nat_cmp a.2 b.2)

module _ (leads : ℕ → ℕ → Bool) where
  -- How many of the first n rules are i or lead to i.
  unfoldable pub rank_of : ℕ → ℕ → ℕ
  rank_of n i = count_by (λ m. (m == i) || leads m i) (range_with_len 0 n)

  -- The lowest rule of the group of i: the first of the rules below i that leads to i and back, or i.
  unfoldable pub leader_of : ℕ → ℕ
  leader_of i = position_or_len (λ m. leads m i && leads i m) (range_with_len 0 i)

  -- The key of i: its rank, then the lowest rule of its group, then i.
  abbrev pub key_of : ℕ → ℕ → Key
  key_of n i = (rank_of n i, leader_of i, i)

  -- An order has each of the first n rules, and their keys ascend. There is one such order only (`only_one` in proofs/Ordering.antt).
  pub record InOrder (n : ℕ) (order : List RuleNo) : Type 0 where
    pub long : length order ≡ n
    pub numbered : (p : ℕ) → p < length order → (0 < number_at order p) × (at order p < n)
    pub every : (i : ℕ) → i < n → list_any (λ (no : RuleNo). no.0 == i + 1) order ≡ true
    pub ascends : (p q : ℕ) → p < q → q < length order → is_lt (key_cmp (key_of n (at order p)) (key_of n (at order q))) ≡ true

  -- Two rules are of one group, as a test.
  abbrev pub one_group : ℕ → ℕ → Bool
  one_group i j = i == j || (leads i j && leads j i)

-- The parts of an order of n rules: each holds a place at least, the rules from its start to its end are of one group, and the next is not.
abbrev pub SizedParts : ℕ → List Group → Type 0
SizedParts n groups = (g : ℕ) → g < length groups → (start_of groups g < end_of groups g) × (end_of groups g ≤ n)

module _ (leads : ℕ → ℕ → Bool) (order : List RuleNo) where
  abbrev pub InsideParts : List Group → Type 0
  InsideParts groups = (g q : ℕ) → Holds groups g q → one_group leads (at order (start_of groups g)) (at order q) ≡ true

  abbrev pub OutsideParts : ℕ → List Group → Type 0
  OutsideParts n groups = (g : ℕ) → g < length groups → end_of groups g < n → one_group leads (at order (start_of groups g)) (at order (end_of groups g)) ≡ false

  abbrev pub RingedParts : List Group → Type 0
  RingedParts groups = (g : ℕ) → g < length groups → ringed_at groups g ≡ leads (at order (start_of groups g)) (at order (start_of groups g))

-- The parts follow one another from the first place up to p.
abbrev pub FirstPart : List Group → Type 0
FirstPart groups = 0 < length groups → start_of groups 0 ≡ 0

abbrev pub NextParts : List Group → Type 0
NextParts groups = (g : ℕ) → suc g < length groups → end_of groups g ≡ start_of groups (suc g)

abbrev pub LastPart : List Group → ℕ → Type 0
LastPart groups p = (g : ℕ) → suc g ≡ length groups → end_of groups g ≡ p

abbrev pub NoPart : List Group → ℕ → Type 0
NoPart groups p = length groups ≡ 0 → p ≡ 0

-- All of it.
pub record PartsTo (leads : ℕ → ℕ → Bool) (order : List RuleNo) (n : ℕ) (groups : List Group) (p : ℕ) : Type 0 where
  pub sized : SizedParts n groups
  pub inside : InsideParts leads order groups
  pub outside : OutsideParts leads order n groups
  pub ringed : RingedParts leads order groups
  pub first : FirstPart groups
  pub next : NextParts groups
  pub last : LastPart groups p
  pub none : NoPart groups p
