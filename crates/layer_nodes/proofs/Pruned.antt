-- Nodes that are taken out, or stay and close up, one after another.
use Rattle.std.proofs.Common.{◌≡◌, ℕ, ◌+◌, ◌<◌, ℤ, pos, Bool, true, false, cond, ◌||◌, List, [], ◌∷◌, ◌++◌, length, map, take, drop, set, get_or, slice_get, Option, Some, None, is_some, refl, sym, ◌∙◌, ap, ap₂, subst, append_assoc, arith}
use Rattle.std.proofs.lemmas.List.{take_more_set, drop-set-lt, length-set, set-get_or, drop_more, map-append, length_push}
use Rattle.std.proofs.lemmas.Option.{get_or_from_slice_get}
use Rattle.dp_model.specs.Dp.{Dp}
use Rattle.dp_model.specs.Lists.{Each, OneOf}
use Rattle.dp_model.specs.NumberLaws.{small_natural}
use Rattle.dp_model.proofs.Members.{Each-append}
use Rattle.dp_laws.specs.Diagrams.Nodes.{DdNode}
use Rattle.dp_laws.proofs.Diagrams.Places.{same-Some}
use Rattle.dp_laws.specs.Rules.Redirects.{Redirect}
use Rattle.dp_laws.specs.Rules.Pruning.{Leader, at_leader, is_struck, leaders_past, pruned_nodes, prune_redirects}
use Rattle.layer_nodes.specs.declared.node.Node.{Node}
use Rattle.layer_nodes.specs.declared.redirecting.LeaderAt.{LeaderAt}
use Rattle.layer_nodes.specs.declared.striking.Strikes.{Strikes}
use Rattle.layer_nodes.specs.Leading.{IsNodeBy, leaders_of, led_at, bare}
use Rattle.layer_nodes.specs.Redirecting.{IsShort}
use Rattle.layer_nodes.specs.Striking.{Shows, threshold_of, rough_for, asking, led_out, taken_out, ArePruned}
use Rattle.layer_nodes.proofs.Leaders.{leader_rough, at-leader-same, struck-same, leaders-led, each-led}
use Rattle.layer_nodes.proofs.Redirected.{left-at}
use Rattle.layer_nodes.proofs.Stored.{each-set, each-get, among-each, among-self}

abbrev pub here : ℕ → Option Redirect
here place = Some (record { place = place; longer = pos 0 })

-- a node that is put where it stands
pub set-own : {X : Type 0} (xs : List X) (i : ℕ) (x : X) → slice_get xs i ≡ Some x → set xs i x ≡ xs
set-own xs i x e = ap (set xs i) (sym (get_or_from_slice_get xs i x x e)) ∙ set-get_or xs i x

-- One node.

out-test : (b : Bool) (a : Option Redirect) (o : Option Redirect) (ns other : List DdNode) (ls others : List (Option Redirect)) → cond b (Some None) (led_out a) ≡ Some o
    → (cond (b || is_some a) ns other ≡ ns) × (cond b (None ∷ ls) (cond (is_some a) (a ∷ ls) others) ≡ o ∷ ls)
out-test true a o ns other ls others e = (refl, ap (λ x. x ∷ ls) (same-Some None o e))
out-test false None o ns other ls others e = absurd (cc)
out-test false (Some l) o ns other ls others e = (refl, ap (λ x. x ∷ ls) (same-Some (Some l) o e))

stays-test : (b : Bool) (a : Option Redirect) (ns other : List DdNode) (ls others : List (Option Redirect)) → cond b (Some None) (led_out a) ≡ None
    → (cond (b || is_some a) ns other ≡ other) × (cond b (None ∷ ls) (cond (is_some a) (a ∷ ls) others) ≡ others)
stays-test true a ns other ls others e = absurd (cc)
stays-test false None ns other ls others e = (refl, refl)
stays-test false (Some l) ns other ls others e = absurd (cc)

module _ (dp : Dp) (k : ℕ) (strikes : Strikes) (row : ℕ → List ℤ) (leaders : List Leader) (stay : ℕ) (show : Node → DdNode) (shows : Shows row show) (node : Node) (rest : List DdNode) where
  as-shown : cond (is_struck (asking strikes dp) k (threshold_of strikes) (show node)) (Some None) (led_out (at_leader (asking strikes dp) k leaders (show node))) ≡ taken_out dp k strikes leaders (bare row node)
  as-shown = ap₂ (λ b o. cond b (Some None) (led_out o)) (struck-same (asking strikes dp) k (threshold_of strikes) (show node) (bare row node) (shows.rows_are node) (shows.values_are node))
      (leader_rough dp k (λ i row. rough_for strikes (dp.rough i row)) leaders (show node) ∙ at-leader-same dp k leaders (show node) (bare row node) (shows.rows_are node) (shows.values_are node))

  abbrev more_leaders : List Leader
  more_leaders = leaders_past leaders stay (show node)

  -- a node that is taken out
  out-next : (o : Option Redirect) → taken_out dp k strikes leaders (bare row node) ≡ Some o
      → (pruned_nodes (asking strikes dp) k (threshold_of strikes) leaders stay (show node ∷ rest) ≡ pruned_nodes (asking strikes dp) k (threshold_of strikes) leaders stay rest)
      × (prune_redirects (asking strikes dp) k (threshold_of strikes) leaders stay (show node ∷ rest) ≡ o ∷ prune_redirects (asking strikes dp) k (threshold_of strikes) leaders stay rest)
  out-next o h = out-test (is_struck (asking strikes dp) k (threshold_of strikes) (show node)) (at_leader (asking strikes dp) k leaders (show node)) o
      (pruned_nodes (asking strikes dp) k (threshold_of strikes) leaders stay rest) (show node ∷ pruned_nodes (asking strikes dp) k (threshold_of strikes) more_leaders (stay + 1) rest)
      (prune_redirects (asking strikes dp) k (threshold_of strikes) leaders stay rest) (here stay ∷ prune_redirects (asking strikes dp) k (threshold_of strikes) more_leaders (stay + 1) rest) (as-shown ∙ h)

  -- a node that stays
  stays-next : taken_out dp k strikes leaders (bare row node) ≡ None
      → (pruned_nodes (asking strikes dp) k (threshold_of strikes) leaders stay (show node ∷ rest) ≡ show node ∷ pruned_nodes (asking strikes dp) k (threshold_of strikes) more_leaders (stay + 1) rest)
      × (prune_redirects (asking strikes dp) k (threshold_of strikes) leaders stay (show node ∷ rest) ≡ here stay ∷ prune_redirects (asking strikes dp) k (threshold_of strikes) more_leaders (stay + 1) rest)
  stays-next h = stays-test (is_struck (asking strikes dp) k (threshold_of strikes) (show node)) (at_leader (asking strikes dp) k leaders (show node))
      (pruned_nodes (asking strikes dp) k (threshold_of strikes) leaders stay rest) (show node ∷ pruned_nodes (asking strikes dp) k (threshold_of strikes) more_leaders (stay + 1) rest)
      (prune_redirects (asking strikes dp) k (threshold_of strikes) leaders stay rest) (here stay ∷ prune_redirects (asking strikes dp) k (threshold_of strikes) more_leaders (stay + 1) rest) (as-shown ∙ h)

-- What was done and what is left.

pub drop-next : {X : Type 0} (old now : List X) (i : ℕ) (d : X) → drop i now ≡ drop i old → length now ≡ length old → i < length old
    → (drop i old ≡ get_or now i d ∷ drop (i + 1) old) × (drop (i + 1) now ≡ drop (i + 1) old)
drop-next old now i d left same less =
    let at = left-at old now i d left same less in
    let before = drop_more old i d less in
    let after = drop_more now i d (omega arith) in
    (before ∙ ap (λ x. x ∷ drop (i + 1) old) (sym at), ap (drop 1) (sym after ∙ (left ∙ before)))

module _ (dp : Dp) (k : ℕ) (strikes : Strikes) (row : ℕ → List ℤ) (old : List Node) (ls : List LeaderAt) (now : List Node) (redirects : List (Option Redirect)) (stay i : ℕ) (d : Node)
    (h : ArePruned dp k strikes row old ls now redirects stay i) (more : i < length old) where
  abbrev node : Node
  node = get_or now i d

  abbrev L : List Leader
  L = leaders_of row ls

  next : (drop i old ≡ node ∷ drop (i + 1) old) × (drop (i + 1) now ≡ drop (i + 1) old)
  next = drop-next old now i d h.left h.size more

  nodes-next : (show : Node → DdNode) → map show (drop i old) ≡ show node ∷ map show (drop (i + 1) old)
  nodes-next show = ap (map show) next.0

  targets-more : (show : Node → DdNode) → Shows row show → (o : Option Redirect) (rest : List (Option Redirect)) → prune_redirects (asking strikes dp) k (threshold_of strikes) L stay (map show (drop i old)) ≡ o ∷ rest
      → (redirects ++ o ∷ []) ++ rest ≡ prune_redirects (asking strikes dp) k (threshold_of strikes) [] 0 (map show old)
  targets-more show shows o rest is = append_assoc redirects (o ∷ []) rest ∙ (ap (λ l. redirects ++ l) (sym is) ∙ h.targets show shows)

  -- the next one is taken out
  pub pruned-out : (o : Option Redirect) → taken_out dp k strikes L (bare row node) ≡ Some o → IsShort o
      → ArePruned dp k strikes row old ls now (redirects ++ o ∷ []) stay (i + 1)
  pruned-out o out short =
      let low = h.few in
      let one = λ (show : Node → DdNode) (shows : Shows row show). out-next dp k strikes row L stay show shows node (map show (drop (i + 1) old)) o out in
      record {
        left = next.1;
        size = h.size;
        few = omega arith;
        count = length_push redirects o ∙ (let n = h.count in omega arith);
        leading = h.leading;
        short = Each-append IsShort redirects (o ∷ []) h.short (short, tt);
        among = h.among;
        nodes = λ show shows. ap (λ l. map show (take stay now) ++ l) (sym (ap (pruned_nodes (asking strikes dp) k (threshold_of strikes) L stay) (nodes-next show) ∙ (one show shows).0)) ∙ h.nodes show shows;
        targets = λ show shows. targets-more show shows o (prune_redirects (asking strikes dp) k (threshold_of strikes) L stay (map show (drop (i + 1) old))) (ap (prune_redirects (asking strikes dp) k (threshold_of strikes) L stay) (nodes-next show) ∙ (one show shows).1);
      }

  -- the next one stays
  pub pruned-stays : taken_out dp k strikes L (bare row node) ≡ None → Each (IsNodeBy dp k row) old
      → ArePruned dp k strikes row old (led_at ls stay node) (set now stay node) (redirects ++ here stay ∷ []) (stay + 1) (i + 1)
  pruned-stays out all =
      let low = h.few in
      let size = h.size in
      let rest = λ (show : Node → DdNode). map show (drop (i + 1) old) in
      let one = λ (show : Node → DdNode) (shows : Shows row show). stays-next dp k strikes row L stay show shows node (rest show) out in
      let leads = λ (show : Node → DdNode) (shows : Shows row show). leaders-led dp k row ls stay node (show node) (shows.rows_are node) (shows.values_are node) (shows.exact_are node) in
      record {
        left = drop-set-lt (i + 1) now stay node (omega arith) ∙ next.1;
        size = length-set now stay node ∙ h.size;
        few = omega arith;
        count = length_push redirects (here stay) ∙ (let n = h.count in omega arith);
        leading = each-led dp k row ls stay node h.leading (each-get (IsNodeBy dp k row) now i d (among-each (IsNodeBy dp k row) old now h.among all) (omega arith));
        short = Each-append IsShort redirects (here stay ∷ []) h.short (small_natural 0 (omega arith), tt);
        among = each-set (λ x. OneOf (λ (other : Node). other ≡ x) old) now stay node (each-get (λ x. OneOf (λ (other : Node). other ≡ x) old) now i d h.among (omega arith)) h.among;
        nodes = λ show shows. (
            let later = pruned_nodes (asking strikes dp) k (threshold_of strikes) (leaders_of row (led_at ls stay node)) (stay + 1) (rest show) in
            let done = map show (take stay now) in
            let first : map show (take (stay + 1) (set now stay node)) ≡ done ++ show node ∷ [] = ap (map show) (take_more_set now stay node (omega arith)) ∙ map-append show (take stay now) (node ∷ []) in
            let left : pruned_nodes (asking strikes dp) k (threshold_of strikes) L stay (map show (drop i old)) ≡ show node ∷ later =
            ap (pruned_nodes (asking strikes dp) k (threshold_of strikes) L stay) (nodes-next show) ∙ ((one show shows).0 ∙ ap (λ x. show node ∷ pruned_nodes (asking strikes dp) k (threshold_of strikes) x (stay + 1) (rest show)) (sym (leads show shows))) in
            ap (λ l. l ++ later) first ∙ (append_assoc done (show node ∷ []) later ∙ (ap (λ l. done ++ l) (sym left) ∙ h.nodes show shows)));
        targets = λ show shows. (
            let left = ap (prune_redirects (asking strikes dp) k (threshold_of strikes) L stay) (nodes-next show) ∙ ((one show shows).1 ∙ ap (λ x. here stay ∷ prune_redirects (asking strikes dp) k (threshold_of strikes) x (stay + 1) (rest show)) (sym (leads show shows))) in
            targets-more show shows (here stay) (prune_redirects (asking strikes dp) k (threshold_of strikes) (leaders_of row (led_at ls stay node)) (stay + 1) (rest show)) left);
      }

pub pruned-none : (dp : Dp) (k : ℕ) (strikes : Strikes) (row : ℕ → List ℤ) (nodes : List Node) → ArePruned dp k strikes row nodes [] nodes [] 0 0
pruned-none dp k strikes row nodes =
    record { left = refl; size = refl; few = omega arith; count = refl; leading = tt; short = tt; among = among-self nodes; nodes = λ show shows. refl; targets = λ show shows. refl }

-- the same by equal parts
pub pruned-by : (dp : Dp) (k : ℕ) (strikes : Strikes) (row : ℕ → List ℤ) (old : List Node) (ls ls2 : List LeaderAt) (now now2 : List Node) (redirects redirects2 : List (Option Redirect)) (stay stay2 i : ℕ)
    → ArePruned dp k strikes row old ls now redirects stay i → ls2 ≡ ls → now2 ≡ now → redirects2 ≡ redirects → stay2 ≡ stay → ArePruned dp k strikes row old ls2 now2 redirects2 stay2 i
pruned-by dp k strikes row old ls ls2 now now2 redirects redirects2 stay stay2 i h a b c d =
    subst (λ x. ArePruned dp k strikes row old x now2 redirects2 stay2 i) (sym a)
    (subst (λ x. ArePruned dp k strikes row old ls x redirects2 stay2 i) (sym b)
    (subst (λ x. ArePruned dp k strikes row old ls now x stay2 i) (sym c)
    (subst (λ x. ArePruned dp k strikes row old ls now redirects x i) (sym d) h)))
