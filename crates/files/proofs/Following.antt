-- One line after the other, to the end of the file.
use Rattle.std.proofs.Common.{◌≡◌, ℕ, ◌+◌, Bool, true, false, cond, eqb, List, [], ◌∷◌, ◌++◌, length, Some, None, Ok, Err, Option, Result, MatchResult, sym, refl, ap, ◌∙◌, subst, append_assoc, add-zero, arith, length-append}
use Rattle.std.proofs.lemmas.Bool.{cond-true, cond-false}
use Rattle.terms.specs.declared.refusal.Refusal.{Refusal}
use Rattle.terms.specs.declared.numbers.RuleNo.{RuleNo}
use Rattle.terms.specs.declared.refusal.Refusal.TheVariants.{Unended, Misspelt, Overfull}
use Rattle.rules.specs.declared.draft.AddFault.{AddFault}
use Rattle.rules.specs.declared.draft.AddFault.TheVariants as add
use Rattle.rules.specs.Drafts.{add_refusal, Added}
use Rattle.rules.specs.Written.{Written, spelt, room_for}
use Rattle.files.specs.declared.columns.RuleColumn.{RuleColumn}
use Rattle.files.specs.declared.fault.LineFault.{LineFault}
use Rattle.files.specs.declared.fault.Report.{Report}
use Rattle.files.specs.RuleFiles.{Outcome, rules, fault, line_outcome, lines_outcome}
use Rattle.files.specs.declared.parts.Line.{Line}
use Rattle.files.specs.declared.parts.Lines.{Lines}
use Rattle.files.specs.Cursors.{any_left, lines_left, LineTaken}
use Rattle.files.specs.Faults.{line_told, unadded}
use Rattle.files.specs.Answers.{Told, ToldOf, Fronted, add_outcome, rest_outcome}

-- What follows an outcome, unless it is a fault.
abbrev pub after : Outcome → (List Written → Outcome) → Outcome
after o go = elim o [ rules more ↦ go more | fault r i k ↦ fault r i k ]

pub next_line : (cs : List RuleColumn) (n : ℕ) (ws : List Written) (line : List ℕ) (left : List (List ℕ)) → lines_outcome cs n ws (line ∷ left) ≡ after (rest_outcome cs n ws (any_left left) line) (λ more. lines_outcome cs (n + 1) more left)
next_line cs n ws line [] =
    elim (eqb (length line) 0) as (λ t. cond t (rules ws) (fault Unended n 0) ≡ after (cond t (rules ws) (fault Unended n 0)) (λ more. rules more)) [ true ↦ refl | false ↦ refl ]
next_line cs n ws line (next ∷ rest) = refl

module _ (cs : List RuleColumn) (n : ℕ) (ws : List Written) (line : List ℕ) (left : List (List ℕ)) (ended : Bool) (is : ended ≡ any_left left) where
  -- The line was read: the rest of the file follows.
  pub line_done : {more : List Written} → rest_outcome cs n ws ended line ≡ rules more → lines_outcome cs n ws (line ∷ left) ≡ lines_outcome cs (n + 1) more left
  line_done {more} e =
      next_line cs n ws line left
      ∙ ap (λ (o : Outcome). after o (λ m. lines_outcome cs (n + 1) m left)) (ap (λ (t : Bool). rest_outcome cs n ws t line) (sym is) ∙ e)

  -- It was refused: so is the file.
  pub line_refused : {r : Refusal} {i k : ℕ} → rest_outcome cs n ws ended line ≡ fault r i k → lines_outcome cs n ws (line ∷ left) ≡ fault r i k
  line_refused h =
      next_line cs n ws line left
      ∙ ap (λ (o : Outcome). after o (λ m. lines_outcome cs (n + 1) m left)) (ap (λ (t : Bool). rest_outcome cs n ws t line) (sym is) ∙ h)

-- ---- no memory for a rule

-- What is not refused has room.
room_for_lem : (ws : List Written) (w : Written) → add_refusal ws w ≡ None → room_for ws w ≡ true
room_for_lem ws w h = go (spelt w) (room_for ws w) h
  where
    go : (s r : Bool) → cond s (cond r None (Some Overfull)) (Some Misspelt) ≡ None → r ≡ true
    go true true e = refl
    go true false e = absurd (grind arith)
    go false true e = refl
    go false false e = absurd (grind arith)

-- A refusal of a rule whose names are labels is for want of room.
no_room : (ws : List Written) (w : Written) (why : Refusal) → spelt w ≡ true → add_refusal ws w ≡ Some why → room_for ws w ≡ false
no_room ws w why s h = go (room_for ws w) (sym (cond-true (spelt w) _ _ s) ∙ h)
  where
    go : (r : Bool) → cond r None (Some Overfull) ≡ Some why → r ≡ false
    go true e = absurd (grind arith)
    go false e = refl

add_told : (n : ℕ) (ws after : List Written) (w : Written) (f : AddFault) → spelt w ≡ true → Added ws w after (Err f) → Told ws (add_outcome n ws w) (line_told (unadded f n))
add_told n ws after w (add.Refused why) s h = cond-false (room_for ws w) _ _ (no_room ws w why s h.0)
add_told n ws after w add.OutOfMemory s h = (w, cond-true (room_for ws w) _ _ (room_for_lem ws w h.0))

-- A rule that was not added, and the fault that is made of that.
pub unadded_told : (n : ℕ) (ws after : List Written) (w : Written) (r : Result RuleNo AddFault) (m : Result RuleNo LineFault) (x : LineFault) → spelt w ≡ true → Added ws w after r
    → MatchResult r (λ number. m ≡ Ok number) (λ f. m ≡ Err (unadded f n)) → m ≡ Err x → Told ws (add_outcome n ws w) (line_told x)
unadded_told n ws after w (Ok number) m x s h made is = absurd (grind arith)
unadded_told n ws after w (Err f) m x s h made is =
    let same : unadded f n ≡ x = cc in
    subst (λ (y : LineFault). Told ws (add_outcome n ws w) (line_told y)) same (add_told n ws after w f s h)

pub any_push : (front : List (List ℕ)) → any_left (front ++ ([] ∷ [])) ≡ true
any_push [] = refl
any_push (x ∷ xs) = refl

-- One more line after lines that say rules.
lines_push : (cs : List RuleColumn) (n : ℕ) (ws vs us : List Written) (front : List (List ℕ)) (line : List ℕ) → lines_outcome cs n ws (front ++ ([] ∷ [])) ≡ rules vs → line_outcome cs (n + length front) vs line ≡ rules us
    → lines_outcome cs n ws ((front ++ (line ∷ [])) ++ ([] ∷ [])) ≡ rules us
lines_push cs n ws vs us [] line h e =
    let same : ws ≡ vs = cc in
    let first : line_outcome cs n ws line ≡ rules us = rw same (subst (λ m. line_outcome cs m vs line ≡ rules us) (add-zero n) e) in
    ap (λ (o : Outcome). after o (λ m. lines_outcome cs (n + 1) m ([] ∷ []))) first
lines_push cs n ws vs us (l ∷ front) line h e = go (line_outcome cs n ws l) refl (λ more into far. lines_push cs (n + 1) more vs us front line into far)
  where
    step : (front : List (List ℕ)) → lines_outcome cs n ws (l ∷ (front ++ ([] ∷ []))) ≡ after (line_outcome cs n ws l) (λ more. lines_outcome cs (n + 1) more (front ++ ([] ∷ [])))
    step front = next_line cs n ws l (front ++ ([] ∷ [])) ∙ ap (λ (t : Bool). after (rest_outcome cs n ws t l) (λ more. lines_outcome cs (n + 1) more (front ++ ([] ∷ [])))) (any_push front)

    go : (o : Outcome) → line_outcome cs n ws l ≡ o
        → ((more : List Written) → lines_outcome cs (n + 1) more (front ++ ([] ∷ [])) ≡ rules vs → line_outcome cs ((n + 1) + length front) vs line ≡ rules us → lines_outcome cs (n + 1) more ((front ++ (line ∷ [])) ++ ([] ∷ [])) ≡ rules us)
        → lines_outcome cs n ws (((l ∷ front) ++ (line ∷ [])) ++ ([] ∷ [])) ≡ rules us
    go (rules more) q rest =
        let into : lines_outcome cs (n + 1) more (front ++ ([] ∷ [])) ≡ rules vs = sym (ap (λ (o : Outcome). after o (λ m. lines_outcome cs (n + 1) m (front ++ ([] ∷ [])))) q) ∙ (sym (step front) ∙ h) in
        let far : line_outcome cs ((n + 1) + length front) vs line ≡ rules us = subst (λ m. line_outcome cs m vs line ≡ rules us) (omega arith) e in
        step (front ++ (line ∷ [])) ∙ (ap (λ (o : Outcome). after o (λ m. lines_outcome cs (n + 1) m ((front ++ (line ∷ [])) ++ ([] ∷ [])))) q ∙ rest more into far)
    go (fault r i k) q rest =
        let stuck : fault r i k ≡ rules vs = sym (ap (λ (o : Outcome). after o (λ m. lines_outcome cs (n + 1) m (front ++ ([] ∷ [])))) q) ∙ (sym (step front) ∙ h) in
        let z : ◌≡◌ {A = ℕ} 0 1 = cc in absurd (omega arith)

-- The lines that were taken say these rules, and the others are left.
pub record Fore (cs : List RuleColumn) (n : ℕ) (ws : List Written) (parts : List (List ℕ)) (m : ℕ) (vs : List Written) (left : List (List ℕ)) : Type 0 where
  pub front : List (List ℕ)
  pub cut : parts ≡ front ++ left
  pub says_rules : lines_outcome cs n ws (front ++ ([] ∷ [])) ≡ rules vs
  pub far : m ≡ n + length front

module _ (cs : List RuleColumn) (n : ℕ) (ws : List Written) (parts : List (List ℕ)) (m : ℕ) (vs : List Written) (line : List ℕ) (left : List (List ℕ)) (f : Fore cs n ws parts m vs (line ∷ left)) where
  fore_cut : parts ≡ (f.front ++ (line ∷ [])) ++ left
  fore_cut = f.cut ∙ sym (append_assoc f.front (line ∷ []) left)

  pub fore_more : (us : List Written) → line_outcome cs m vs line ≡ rules us → Fore cs n ws parts (m + 1) us left
  fore_more us e = record {
    front = f.front ++ (line ∷ []);
    cut = fore_cut;
    says_rules = lines_push cs n ws vs us f.front line f.says_rules (subst (λ k. line_outcome cs k vs line ≡ rules us) f.far e);
    far = let l = length-append f.front (line ∷ []) in let d = f.far in omega arith;
  }

  -- There was no memory for its rule: the lines up to it say rules. What stands after the last line end has no rule.
  fore_short : (ended : Bool) → Told vs (rest_outcome cs m vs ended line) None → Fronted (lines_outcome cs n ws) parts
  fore_short true t =
      let g = fore_more (vs ++ (t.0 ∷ [])) t.1 in
      record { front = g.front; back = left; cut = g.cut; before = vs; last = t.0; says_rules = g.says_rules }
  fore_short false t = absurd (none_more (eqb (length line) 0) t.1)
    where
      none_more : (e : Bool) → cond e (rules vs) (fault Unended m 0) ≡ rules (vs ++ (t.0 ∷ [])) → ⊥
      none_more true q = let same : vs ≡ vs ++ (t.0 ∷ []) = cc in let l = ap length same ∙ length-append vs (t.0 ∷ []) in omega arith
      none_more false q = let z : ◌≡◌ {A = ℕ} 0 1 = cc in omega arith

  -- So for each way in which the line was not read.
  pub line_told_lem : (t : Option Report) (ended : Bool) → ended ≡ any_left left → lines_outcome cs n ws parts ≡ lines_outcome cs m vs (line ∷ left) → Told vs (rest_outcome cs m vs ended line) t → ToldOf (lines_outcome cs n ws) parts t
  line_told_lem None ended is same h = fore_short ended h
  line_told_lem (Some r) ended is same h = same ∙ line_refused cs m vs line left ended is h

-- ---- a loop's step

module _ (cs : List RuleColumn) (n : ℕ) (ws : List Written) (parts : List (List ℕ)) (from to : Lines) (line : Line) (taken : LineTaken from to line) (vs : List Written)
    (same : lines_outcome cs n ws parts ≡ lines_outcome cs from.number vs (lines_left from))
    (fore : any_left (lines_left from) ≡ true → Fore cs n ws parts from.number vs (lines_left from)) where
  same_here : lines_outcome cs n ws parts ≡ lines_outcome cs line.number vs (line.bytes.now ∷ lines_left to)
  same_here = same ∙ (ap (lines_outcome cs from.number vs) taken.lines ∙ ap (λ m. lines_outcome cs m vs (line.bytes.now ∷ lines_left to)) (sym taken.number))

  fore_here : Fore cs n ws parts line.number vs (line.bytes.now ∷ lines_left to)
  fore_here = subst (λ m. Fore cs n ws parts m vs (line.bytes.now ∷ lines_left to)) (sym taken.number)
      (subst (λ ls. Fore cs n ws parts from.number vs ls) taken.lines (fore (ap any_left taken.lines)))

  next_is : line.number + 1 ≡ to.number
  next_is = ap (λ m. m + 1) taken.number ∙ sym taken.next_number

  pub step_same : (us : List Written) → rest_outcome cs line.number vs line.ended line.bytes.now ≡ rules us → lines_outcome cs n ws parts ≡ lines_outcome cs to.number us (lines_left to)
  step_same us e =
      same_here ∙ (line_done cs line.number vs line.bytes.now (lines_left to) line.ended taken.ended e ∙ ap (λ m. lines_outcome cs m us (lines_left to)) next_is)

  pub step_fore : (us : List Written) → rest_outcome cs line.number vs line.ended line.bytes.now ≡ rules us → any_left (lines_left to) ≡ true → Fore cs n ws parts to.number us (lines_left to)
  step_fore us e any = subst (λ m. Fore cs n ws parts m us (lines_left to)) next_is
      (fore_more cs n ws parts line.number vs line.bytes.now (lines_left to) fore_here us
      (sym (ap (λ (t : Bool). rest_outcome cs line.number vs t line.bytes.now) (taken.ended ∙ any)) ∙ e))

  pub step_told : (t : Option Report) → Told vs (rest_outcome cs line.number vs line.ended line.bytes.now) t → ToldOf (lines_outcome cs n ws) parts t
  step_told t h = line_told_lem cs n ws parts line.number vs line.bytes.now (lines_left to) fore_here t line.ended taken.ended same_here h
