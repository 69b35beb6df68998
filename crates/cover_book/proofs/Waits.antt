-- The rows that wait, one node after another.
use Rattle.std.proofs.Common.{◌≡◌, ℕ, ◌+◌, ◌<◌, ℤ, true, false, cond, List, [], ◌∷◌, ◌++◌, length, drop, Option, Some, None, option_map, IsSome, refl, sym, ◌∙◌, ap, ap₂, subst, arith, append_assoc}
use Rattle.std.proofs.lemmas.List.{drop_all, map_push}
use Rattle.std.proofs.lemmas.Option.{same_Some}
use Rattle.dp_model.specs.Dp.{Dp}
use Rattle.dp_model.specs.Subproblem.{Subproblem, IsOwn}
use Rattle.dp_model.proofs.Members.{Each-append}
use Rattle.dp_laws.specs.Diagrams.Nodes.{DdNode, DdLayers, node_at}
use Rattle.relaxed_dd.specs.Shown.{layer_in}
use Rattle.bound_cover.specs.Exploring.{Waiting, waiting_in, leads_above}
use Rattle.cover_book.proofs.Layers.{drop-at, there, node-here}
use Rattle.cover_book.specs.declared.waiting.WaitingRow.{WaitingRow}
use Rattle.cover_book.specs.Waits.{waiting_row, waiting_of, AreOwn, sub_of, IsOwnAt, AreOwnAt}

-- the nodes from the place i on are still to be looked at
pub record IsWaitingTo (dp : Dp) (claim : Option ℤ) (d : DdLayers) (depth start i : ℕ) (old now : List WaitingRow) : Type 0 where
  pub waiting : waiting_of now ++ waiting_in claim (start + i) (drop i (layer_in d depth)) ≡ waiting_of old ++ waiting_in claim start (layer_in d depth)
  pub own : AreOwn dp now

-- what a node says
pub node-is : (d : DdLayers) (depth i : ℕ) → i < length (layer_in d depth) → IsSome (node_at d depth i)
node-is d depth i less = let x = there (layer_in d depth) i less in subst (λ (o : Option DdNode). IsSome o) (sym (node-here d depth i ∙ x.1)) refl

pub exact-is : (dp : Dp) (o : Option DdNode) → IsOwnAt dp o → option_map (λ (n : DdNode). n.exact) o ≡ Some true
exact-is dp None h = absurd h
exact-is dp (Some n) h = ap Some h.exact

sub-own : (dp : Dp) (o : Option DdNode) (s : Subproblem) → IsOwnAt dp o → option_map sub_of o ≡ Some s → IsOwn dp s
sub-own dp None s h e = absurd h
sub-own dp (Some n) s h e = subst (IsOwn dp) (same_Some (sub_of n) s e) h.own

-- a node that leads above the claim waits
pub waits-more : (dp : Dp) (claim : Option ℤ) (d : DdLayers) (depth start i : ℕ) (old now new : List WaitingRow) (w : WaitingRow) → AreOwnAt dp d depth → i < length (layer_in d depth) → IsWaitingTo dp claim d depth start i old now
    → option_map (leads_above claim) (node_at d depth i) ≡ Some true → option_map sub_of (node_at d depth i) ≡ Some w.sub.subproblem → w.place ≡ start + i → new ≡ now ++ w ∷ [] → IsWaitingTo dp claim d depth start (i + 1) old new
waits-more dp claim d depth start i old now new w nodes less h leads sub place n =
    let layer = layer_in d depth in
    let x = there layer i less in
    let is = node-here d depth i ∙ x.1 in
    let above : leads_above claim x.0 ≡ true = same_Some (leads_above claim x.0) true (sym (ap (option_map (leads_above claim)) is) ∙ leads) in
    let its : sub_of x.0 ≡ w.sub.subproblem = same_Some (sub_of x.0) w.sub.subproblem (sym (ap (option_map sub_of) is) ∙ sub) in
    let next : start + i + 1 ≡ start + (i + 1) = omega arith in
    let q : Waiting = record { place = start + i; prefix = x.0.path } in
    let first : waiting_in claim (start + i) (drop i layer) ≡ q ∷ waiting_in claim (start + (i + 1)) (drop (i + 1) layer) =
    ap (waiting_in claim (start + i)) (drop-at layer i x.0 x.1) ∙ (ap (λ b. cond b (q ∷ waiting_in claim (start + i + 1) (drop (i + 1) layer)) (waiting_in claim (start + i + 1) (drop (i + 1) layer))) above ∙ ap (λ m. q ∷ waiting_in claim m (drop (i + 1) layer)) next) in
    let row : waiting_row w ≡ q = ap₂ (λ (m : ℕ) (s : Subproblem). record { place = m; prefix = s.decisions }) place (sym its) in
    let more : waiting_of new ≡ waiting_of now ++ q ∷ [] = ap waiting_of n ∙ (map_push waiting_row now w ∙ ap (λ r. waiting_of now ++ r ∷ []) row) in
    record {
      waiting = ap (λ l. l ++ waiting_in claim (start + (i + 1)) (drop (i + 1) layer)) more
          ∙ (append_assoc (waiting_of now) (q ∷ []) (waiting_in claim (start + (i + 1)) (drop (i + 1) layer)) ∙ (ap (λ l. waiting_of now ++ l) (sym first) ∙ h.waiting));
      own = subst (AreOwn dp) (sym n) (Each-append (λ (r : WaitingRow). IsOwn dp r.sub.subproblem) now (w ∷ []) h.own (sub-own dp (node_at d depth i) w.sub.subproblem (nodes i less) sub, tt));
    }

-- another does not
pub waits-not : (dp : Dp) (claim : Option ℤ) (d : DdLayers) (depth start i : ℕ) (old now : List WaitingRow) → i < length (layer_in d depth) → IsWaitingTo dp claim d depth start i old now
    → option_map (leads_above claim) (node_at d depth i) ≡ Some false → IsWaitingTo dp claim d depth start (i + 1) old now
waits-not dp claim d depth start i old now less h leads =
    let layer = layer_in d depth in
    let x = there layer i less in
    let is = node-here d depth i ∙ x.1 in
    let under : leads_above claim x.0 ≡ false = same_Some (leads_above claim x.0) false (sym (ap (option_map (leads_above claim)) is) ∙ leads) in
    let next : start + i + 1 ≡ start + (i + 1) = omega arith in
    let q : Waiting = record { place = start + i; prefix = x.0.path } in
    let first : waiting_in claim (start + i) (drop i layer) ≡ waiting_in claim (start + (i + 1)) (drop (i + 1) layer) =
    ap (waiting_in claim (start + i)) (drop-at layer i x.0 x.1) ∙ (ap (λ b. cond b (q ∷ waiting_in claim (start + i + 1) (drop (i + 1) layer)) (waiting_in claim (start + i + 1) (drop (i + 1) layer))) under ∙ ap (λ m. waiting_in claim m (drop (i + 1) layer)) next) in
    record { waiting = ap (λ l. waiting_of now ++ l) (sym first) ∙ h.waiting; own = h.own }

append-none : {X : Type 0} (xs : List X) → xs ++ [] ≡ xs
append-none [] = refl
append-none (x ∷ xs) = ap (λ ys. x ∷ ys) (append-none xs)
