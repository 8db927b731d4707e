-- The limits of a table, one rule after another.
use Rattle.std.proofs.Common.{◌≡◌, ℕ, ◌<◌, ◌≤◌, true, ltb, leb, List, [], ◌∷◌, ◌++◌, length, refl, append_assoc, arith, length-append}
use Rattle.std.proofs.lemmas.Bool.{and_parts, and_from, ltb-true, leb-true, lt-ltb, le-leb, cond_both}
use Rattle.rules.specs.Written.{Written, known, enter, enter_rule, enter_rules, names_of, spelt, room_for}
use Rattle.files.specs.RuleTexts.{all_spelt, Limited}

-- ---- names are only added

enter_grows : (names : List (List ℕ)) (text : List ℕ) → length names ≤ length (enter names text)
enter_grows names text = cond_both (known names text) names (names ++ (text ∷ [])) (λ ns. length names ≤ length ns)
    (λ e. omega arith) (λ e. simp length-append (omega arith))

enter_rule_grows : (names : List (List ℕ)) (w : Written) → length names ≤ length (enter_rule names w)
enter_rule_grows names w =
    let one = enter names w.label in
    let two = enter one w.first in
    omega (arith, enter_grows names w.label, enter_grows one w.first, enter_grows two w.second)

enter_rules_grows : (names : List (List ℕ)) (ws : List Written) → length names ≤ length (enter_rules names ws)
enter_rules_grows names [] = omega arith
enter_rules_grows names (w ∷ ws) = omega (arith, enter_rule_grows names w, enter_rules_grows (enter_rule names w) ws)

enter_rules-append : (names : List (List ℕ)) (ws vs : List Written) → enter_rules names (ws ++ vs) ≡ enter_rules (enter_rules names ws) vs
enter_rules-append names [] vs = refl
enter_rules-append names (w ∷ ws) vs = enter_rules-append (enter_rule names w) ws vs

-- The first rules have no more names than all.
names_of_first : (ws vs : List Written) → length (names_of ws) ≤ length (names_of (ws ++ vs))
names_of_first ws vs = rw (enter_rules-append [] ws vs) (enter_rules_grows (names_of ws) vs)

-- ---- one more rule

spelt-append : (ws vs : List Written) → all_spelt ws ≡ true → all_spelt vs ≡ true → all_spelt (ws ++ vs) ≡ true
spelt-append [] vs h k = k
spelt-append (w ∷ ws) vs h k = let p = and_parts (spelt w) (all_spelt ws) h in and_from (spelt w) _ p.0 (spelt-append ws vs p.1 k)

spelt_last : (ws vs : List Written) → all_spelt (ws ++ vs) ≡ true → all_spelt vs ≡ true
spelt_last [] vs h = h
spelt_last (w ∷ ws) vs h = spelt_last ws vs (and_parts (spelt w) (all_spelt (ws ++ vs)) h).1

-- No rules keep the limits.
pub none_limited : Limited []
none_limited = record { names = refl; few_rules = omega arith; few_labels = omega arith }

-- Where there is room for one more rule, the limits hold with it.
pub more_limited : (ws : List Written) (w : Written) → Limited ws → spelt w ≡ true → room_for ws w ≡ true → Limited (ws ++ (w ∷ []))
more_limited ws w o s r =
    let p = and_parts (ltb (length ws) 48) (leb (length (names_of (ws ++ (w ∷ [])))) 32) r in
    record {
      names = spelt-append ws (w ∷ []) o.names (and_from (spelt w) true s refl);
      few_rules = simp length-append (omega (arith, ltb-true (length ws) 48 p.0));
      few_labels = leb-true (length (names_of (ws ++ (w ∷ [])))) 32 p.1;
    }

-- Where the limits hold, each rule is spelt right, and there was room for it.
pub limited_spelt : (ws : List Written) (w : Written) (vs : List Written) → Limited (ws ++ (w ∷ vs)) → spelt w ≡ true
limited_spelt ws w vs o = (and_parts (spelt w) (all_spelt vs) (spelt_last ws (w ∷ vs) o.names)).0

pub limited_room : (ws : List Written) (w : Written) (vs : List Written) → Limited (ws ++ (w ∷ vs)) → room_for ws w ≡ true
limited_room ws w vs o =
    let long : length ws < 48 = omega (arith, simp length-append at o.few_rules) in
    let whole : (ws ++ (w ∷ [])) ++ vs ≡ ws ++ (w ∷ vs) = append_assoc ws (w ∷ []) vs in
    let named : length (names_of (ws ++ (w ∷ []))) ≤ length (names_of (ws ++ (w ∷ vs))) = rw whole at (names_of_first (ws ++ (w ∷ [])) vs) in
    let few = o.few_labels in
    and_from (ltb (length ws) 48) _ (lt-ltb (length ws) 48 long) (le-leb (length (names_of (ws ++ (w ∷ [])))) 32 (omega arith))
