-- What a rule reads, chains of rules, rings, groups and working orders.
-- A rule stands here for its index in the table: the rule with the number k has the index k - 1.
use Rattle.std.specs.Prelude.{◌≡◌, ℕ, ◌-◌, ◌<◌, ◌≤◌, Bool, true, false, ◌&&◌, ◌||◌, ◌⊎◌, List, [], ◌∷◌, length, Decides, ◌==◌, ◌≢◌, nat_lt, slice_index_or}
use mathlib.Core.List.{Memᴰ}
use Rattle.terms.specs.declared.numbers.LabelNo.{LabelNo}
use Rattle.terms.specs.declared.numbers.RuleNo.{RuleNo}
use Rattle.rules.specs.declared.group.Group.{Group}
use Rattle.rules.specs.declared.rule.Rule.{Rule}
use Rattle.rules.specs.declared.relation.Relation.TheVariants.{Before}
use Rattle.rules.specs.Relations.{exclusive}

abbrev label0 : LabelNo
label0 = record { 0 = 0 }

-- The rule at a place of the table; past the end, which no definition below reads, a rule that says nothing.
abbrev pub rule_by_index : List Rule → ℕ → Rule
rule_by_index rules i = slice_index_or rules i (record { label = label0; first = label0; how = Before; second = label0 })

-- The rule r reads a label if it is the first or the second of r.
abbrev pub Reads : Rule → LabelNo → Type 0
Reads r l = (l ≡ r.first) ⊎ (l ≡ r.second)

-- The label of the rule at i is read by the rule at j.
pub record ReadBy (rules : List Rule) (i j : ℕ) : Type 0 where
  pub from_table : i < length rules
  pub to_table : j < length rules
  pub reads : Reads (rule_by_index rules j) (rule_by_index rules i).label

-- The same as a test.
unfoldable pub read_by : List Rule → ℕ → ℕ → Bool
read_by rules i j = nat_lt i (length rules) && (nat_lt j (length rules) && ((rule_by_index rules i).label.0 == (rule_by_index rules j).first.0 || (rule_by_index rules i).label.0 == (rule_by_index rules j).second.0))

-- The rule number at a place of an order, and the rule that has it.
abbrev pub number_at : List RuleNo → ℕ → ℕ
number_at order p = (slice_index_or order p (record { 0 = 0 })).0

abbrev pub at : List RuleNo → ℕ → ℕ
at order p = number_at order p - 1

-- The group with an index: where it starts and ends, whether it is ringed, and which places it holds.
abbrev pub group_at : List Group → ℕ → Group
group_at groups g = slice_index_or groups g (record { start = 0; end = 0; ringed = false })

abbrev pub start_of : List Group → ℕ → ℕ
start_of groups g = (group_at groups g).start

abbrev pub end_of : List Group → ℕ → ℕ
end_of groups g = (group_at groups g).end

abbrev pub ringed_at : List Group → ℕ → Bool
ringed_at groups g = (group_at groups g).ringed

pub record Holds (groups : List Group) (g p : ℕ) : Type 0 where
  pub in_list : g < length groups
  pub from : start_of groups g ≤ p
  pub upto : p < end_of groups g

module _ (rules : List Rule) where
  -- `Chain a xs b`: the list xs of rules begins with a and ends with b, and the label of each is read by the next.
  pub data Chain : ℕ → List ℕ → ℕ → Type 0 where
    alone : {a : ℕ} → a < length rules → Chain a (a ∷ []) a
    next : {a b c : ℕ} {xs : List ℕ} → ReadBy rules a b → Chain b xs c → Chain a (a ∷ xs) c

  -- A chain from a has a last label that b reads.
  abbrev pub Leads : ℕ → ℕ → Type 0
  Leads a b = (xs : List ℕ) × (m : ℕ) × Chain a xs m × ReadBy rules m b

  -- A chain whose last label is read by its first rule.
  abbrev pub Ring : List ℕ → Type 0
  Ring xs = (a : ℕ) × (b : ℕ) × Chain a xs b × ReadBy rules b a

  abbrev pub InRing : ℕ → Type 0
  InRing a = (xs : List ℕ) × Ring xs × Memᴰ a xs

  abbrev pub InOneRing : ℕ → ℕ → Type 0
  InOneRing a b = (xs : List ℕ) × Ring xs × Memᴰ a xs × Memᴰ b xs

  abbrev pub OneGroup : ℕ → ℕ → Type 0
  OneGroup a b = (a ≡ b) ⊎ InOneRing a b

  -- An exclusive rule that is in a ring.
  pub record Barred (i : ℕ) : Type 0 where
    pub in_table : i < length rules
    pub kept : exclusive (rule_by_index rules i).how ≡ true
    pub ringed : InRing i

  -- No exclusive rule is in a ring.
  abbrev pub Free : Type 0
  Free = (i : ℕ) → Barred i → ⊥

  -- The number of the lowest exclusive rule in a ring.
  pub record LowestBarred (no : RuleNo) : Type 0 where
    pub numbered : 0 < no.0
    pub barred : Barred (no.0 - 1)
    pub lowest : (i : ℕ) → i < no.0 - 1 → Barred i → ⊥

  -- A working order: each rule once, each group together and ascending, and a rule before each rule of another group that reads its label.
  pub record WorkingOrder (order : List RuleNo) : Type 0 where
    pub long : length order ≡ length rules
    pub only : (p : ℕ) → p < length order → (0 < number_at order p) × (at order p < length rules)
    pub all : (i : ℕ) → i < length rules → (p : ℕ) × (p < length order) × (at order p ≡ i)
    pub once : (p q : ℕ) → p < length order → q < length order → at order p ≡ at order q → p ≡ q
    pub together : (p q r : ℕ) → p < q → q < r → r < length order → OneGroup (at order p) (at order r) → OneGroup (at order p) (at order q)
    pub ascends : (p q : ℕ) → p < q → q < length order → OneGroup (at order p) (at order q) → at order p < at order q
    pub forward : (p q : ℕ) → p < length order → q < length order → ReadBy rules (at order p) (at order q) → (OneGroup (at order p) (at order q) → ⊥) → p < q

  -- The groups of an order: consecutive parts of it, which have all its places; rules of one part are of one group, rules of two are
  -- not; and a part is ringed exactly if its rules stand in rings.
  pub record Grouping (order : List RuleNo) (groups : List Group) : Type 0 where
    pub within : (g : ℕ) → g < length groups → (start_of groups g < end_of groups g) × (end_of groups g ≤ length order)
    pub covers : (p : ℕ) → p < length order → (g : ℕ) × Holds groups g p
    pub in_turn : (g h : ℕ) → g < h → h < length groups → end_of groups g ≤ start_of groups h
    pub one : (g p q : ℕ) → Holds groups g p → Holds groups g q → OneGroup (at order p) (at order q)
    pub others : (g h p q : ℕ) → (g ≢ h) → Holds groups g p → Holds groups h q → OneGroup (at order p) (at order q) → ⊥
    pub ringed : (g p : ℕ) → Holds groups g p → Decides (ringed_at groups g) (InRing (at order p))
