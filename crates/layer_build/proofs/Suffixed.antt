-- Layers that differ in suffixes only.
use Rattle.std.proofs.Common.{◌≡◌, ℕ, zero, suc, ◌+◌, ◌-◌, ◌*◌, ◌≤◌, ℤ, List, [], ◌∷◌, map, length, slice_get, Option, Some, None, IsTrue, refl, sym, ap, ap₂, ◌∙◌, subst, arith}
use Rattle.dp_model.specs.Dp.{Dp}
use Rattle.dp_model.specs.Gaps.{IsStateOf}
use Rattle.dp_model.specs.Lists.{Each}
use Rattle.dp_laws.specs.declared.arc.DdArc.{DdArc}
use Rattle.dp_laws.specs.Diagrams.Nodes.{DdNode}
use Rattle.dp_laws.specs.Rules.Compiling.{TwoLayers}
use Rattle.dp_laws.specs.Rules.Within.{IsBetween, IsLayerWithin, AreWithin, IsArcWithin, LeadsWithin, ReachesWithin}
use Rattle.dp_model.proofs.Members.{Each-then}
use Rattle.layer_nodes.specs.Nodes.{Told, told_of, NodeView, shown_layer}
use Rattle.layer_build.specs.Layers.{SpaceView, last_depth, last_layer}
use Rattle.layer_build.specs.Stacked.{path_in, paths_below, shown_down, HaveDepths}
use Rattle.layer_build.specs.UnderWay.{last_two, IsUnderWay}

-- a node without its suffix
abbrev pub plain : DdNode → DdNode
plain node = record node { suffix = None }

abbrev pub AreLike : List DdNode → List DdNode → Type 0
AreLike [] [] = Unit {0}
AreLike [] (b ∷ ys) = ⊥
AreLike (a ∷ xs) [] = ⊥
AreLike (a ∷ xs) (b ∷ ys) = (plain a ≡ plain b) × AreLike xs ys

abbrev pub AreAllLike : List (List DdNode) → List (List DdNode) → Type 0
AreAllLike [] [] = Unit {0}
AreAllLike [] (y ∷ m) = ⊥
AreAllLike (x ∷ l) [] = ⊥
AreAllLike (x ∷ l) (y ∷ m) = AreLike x y × AreAllLike l m

like-self : (xs : List DdNode) → AreLike xs xs
like-self [] = tt
like-self (a ∷ xs) = (refl, like-self xs)

all-like-self : (l : List (List DdNode)) → AreAllLike l l
all-like-self [] = tt
all-like-self (x ∷ l) = (like-self x, all-like-self l)

like-with : (rule : List DdArc → Option ℤ) (xs : List DdNode) → AreLike xs (map (λ (n : DdNode). record n { suffix = rule n.arcs }) xs)
like-with rule [] = tt
like-with rule (a ∷ xs) = (refl, like-with rule xs)

-- the layers with suffixes that the arcs of the nodes of the j-th of them give
abbrev pub ended_by : (List DdArc → Option ℤ) → ℕ → List (List DdNode) → List (List DdNode)
ended_by rule j [] = []
ended_by rule zero (layer ∷ rest) = map (λ (n : DdNode). record n { suffix = rule n.arcs }) layer ∷ rest
ended_by rule (suc j) (layer ∷ rest) = layer ∷ ended_by rule j rest

pub like-ended : (rule : List DdArc → Option ℤ) (j : ℕ) (l : List (List DdNode)) → AreAllLike l (ended_by rule j l)
like-ended rule zero [] = tt
like-ended rule (suc j) [] = tt
like-ended rule zero (x ∷ l) = (like-with rule x, all-like-self l)
like-ended rule (suc j) (x ∷ l) = (like-self x, like-ended rule j l)

length-like : (xs ys : List DdNode) → AreLike xs ys → length ys ≡ length xs
length-like [] [] h = refl
length-like [] (b ∷ ys) h = absurd h
length-like (a ∷ xs) [] h = absurd h
length-like (a ∷ xs) (b ∷ ys) h = ap suc (length-like xs ys h.1)

pub length-all-like : (l m : List (List DdNode)) → AreAllLike l m → length m ≡ length l
length-all-like [] [] h = refl
length-all-like [] (y ∷ m) h = absurd h
length-all-like (x ∷ l) [] h = absurd h
length-all-like (x ∷ l) (y ∷ m) h = ap suc (length-all-like l m h.1)

each-like : (P : DdNode → Type 0) → ((a b : DdNode) → plain a ≡ plain b → P a → P b) → (xs ys : List DdNode) → AreLike xs ys → Each P xs → Each P ys
each-like P move [] [] h all = tt
each-like P move [] (b ∷ ys) h all = absurd h
each-like P move (a ∷ xs) [] h all = absurd h
each-like P move (a ∷ xs) (b ∷ ys) h all = (move a b h.0 all.0, each-like P move xs ys h.1 all.1)

map-like : (f : DdNode → Told) → ((a b : DdNode) → plain a ≡ plain b → f a ≡ f b) → (xs ys : List DdNode) → AreLike xs ys → map f xs ≡ map f ys
map-like f same [] [] h = refl
map-like f same [] (b ∷ ys) h = absurd h
map-like f same (a ∷ xs) [] h = absurd h
map-like f same (a ∷ xs) (b ∷ ys) h = ap₂ (λ (x : Told) (l : List Told). x ∷ l) (same a b h.0) (map-like f same xs ys h.1)

reaches-like : (r : ℤ) (xs ys : List DdNode) (i : ℕ) → AreLike xs ys → ReachesWithin r (slice_get xs i) → ReachesWithin r (slice_get ys i)
reaches-like r [] [] i h w = w
reaches-like r [] (b ∷ ys) i h w = absurd h
reaches-like r (a ∷ xs) [] i h w = absurd h
reaches-like r (a ∷ xs) (b ∷ ys) zero h w = subst (λ (n : DdNode). ReachesWithin r (Some n)) h.0 w
reaches-like r (a ∷ xs) (b ∷ ys) (suc i) h w = reaches-like r xs ys i h.1 w

leads-like : (r : ℤ) (xs ys : List DdNode) (o : Option ℕ) → AreLike xs ys → LeadsWithin r xs o → LeadsWithin r ys o
leads-like r xs ys None h w = tt
leads-like r xs ys (Some i) h w = reaches-like r xs ys i h w

last-like : (l m : List (List DdNode)) → AreAllLike l m → AreLike (last_layer l) (last_layer m)
last-like [] [] h = tt
last-like [] (y ∷ m) h = absurd h
last-like (x ∷ l) [] h = absurd h
last-like (x ∷ []) (y ∷ []) h = h.0
last-like (x ∷ []) (y ∷ z ∷ m) h = absurd h.1
last-like (x ∷ w ∷ l) (y ∷ []) h = absurd h.1
last-like (x ∷ w ∷ l) (y ∷ z ∷ m) h = last-like (w ∷ l) (z ∷ m) h.1

two-like : (l m : List (List DdNode)) → AreAllLike l m → AreLike (last_two l).above (last_two m).above × AreLike (last_two l).next (last_two m).next
two-like [] [] h = (tt, tt)
two-like [] (y ∷ m) h = absurd h
two-like (x ∷ l) [] h = absurd h
two-like (x ∷ []) (y ∷ []) h = (tt, h.0)
two-like (x ∷ []) (y ∷ z ∷ m) h = absurd h.1
two-like (x ∷ w ∷ l) (y ∷ []) h = absurd h.1
two-like (x ∷ w ∷ []) (y ∷ z ∷ []) h = (h.0, h.1.0)
two-like (x ∷ w ∷ []) (y ∷ z ∷ v ∷ m) h = absurd h.1.1
two-like (x ∷ w ∷ u ∷ l) (y ∷ z ∷ []) h = absurd h.1.1
two-like (x ∷ w ∷ u ∷ l) (y ∷ z ∷ v ∷ m) h = two-like (w ∷ u ∷ l) (z ∷ v ∷ m) h.1

within-like : (dp : Dp) (k w : ℕ) (xs ys : List DdNode) → AreLike xs ys → IsLayerWithin dp k w xs → IsLayerWithin dp k w ys
within-like dp k w xs ys h x =
    let long = length-like xs ys h in
    record {
      states = each-like (λ (n : DdNode). IsStateOf dp k n.row) (λ a b e p. subst (λ (n : DdNode). IsStateOf dp k n.row) e p) xs ys h x.states;
      values = each-like (λ (n : DdNode). IsBetween (k + 1) (2 * k + 1) n.value) (λ a b e p. subst (λ (n : DdNode). IsBetween (k + 1) (2 * k + 1) n.value) e p) xs ys h x.values;
      wide = λ wider. each-like (λ (n : DdNode). IsBetween (k + 1) (2 * k) n.value) (λ a b e p. subst (λ (n : DdNode). IsBetween (k + 1) (2 * k) n.value) e p) xs ys h (x.wide (omega arith));
    }

arcs-move : (k : ℕ) (next next' : List DdNode) → AreLike next next' → (n : DdNode) → Each (IsArcWithin k next n) n.arcs → Each (IsArcWithin k next' n) n.arcs
arcs-move k next next' h n all =
    Each-then (IsArcWithin k next n) (IsArcWithin k next' n) n.arcs (λ (arc : DdArc) a. record { gain = a.gain; longer = a.longer; leads = leads-like _ next next' arc.target h a.leads }) all

arcs-plain : (k : ℕ) (next : List DdNode) (n : DdNode) → Each (IsArcWithin k next n) n.arcs → Each (IsArcWithin k next (plain n)) (plain n).arcs
arcs-plain k next n all =
    Each-then (IsArcWithin k next n) (IsArcWithin k next (plain n)) n.arcs (λ (arc : DdArc) a. record { gain = a.gain; longer = a.longer; leads = a.leads }) all

arcs-whole : (k : ℕ) (next : List DdNode) (n : DdNode) → Each (IsArcWithin k next (plain n)) (plain n).arcs → Each (IsArcWithin k next n) n.arcs
arcs-whole k next n all =
    Each-then (IsArcWithin k next (plain n)) (IsArcWithin k next n) n.arcs (λ (arc : DdArc) a. record { gain = a.gain; longer = a.longer; leads = a.leads }) all

both-like : (dp : Dp) (k w : ℕ) (s t : TwoLayers) → AreLike s.above t.above → AreLike s.next t.next → AreWithin dp k w s → AreWithin dp k w t
both-like dp k w s t above next x = record {
  above = within-like dp k w s.above t.above above x.above;
  next = within-like dp (k + 1) w s.next t.next next x.next;
  arcs = each-like (λ (n : DdNode). Each (IsArcWithin k t.next n) n.arcs) (λ a b e p. arcs-whole k t.next b (subst (λ (n : DdNode). Each (IsArcWithin k t.next n) n.arcs) e (arcs-plain k t.next a p))) s.above t.above above
      (Each-then (λ (n : DdNode). Each (IsArcWithin k s.next n) n.arcs) (λ (n : DdNode). Each (IsArcWithin k t.next n) n.arcs) s.above (λ n p. arcs-move k s.next t.next next n p) x.arcs);
}

pub depths-like : (k : ℕ) (l m : List (List DdNode)) → AreAllLike l m → HaveDepths k l → HaveDepths k m
depths-like k [] [] h all = tt
depths-like k [] (y ∷ m) h all = absurd h
depths-like k (x ∷ l) [] h all = absurd h
depths-like k (x ∷ l) (y ∷ m) h all =
    (each-like (λ (n : DdNode). IsTrue n.exact → length n.path ≡ k) (λ a b e p. subst (λ (n : DdNode). IsTrue n.exact → length n.path ≡ k) e p) x y h.0 all.0, depths-like (k + 1) l m h.1 all.1)

-- a diagram stays under way where no more than suffixes change
pub like-under-way : (dp : Dp) (s : SpaceView) (m : List (List DdNode)) → AreAllLike s.layers m → IsUnderWay dp s → IsUnderWay dp (record s { layers = m })
like-under-way dp s m h u =
    let long = length-all-like s.layers m h in
    let some = u.some in
    let low = u.low in
    let few = u.few in
    let deep : length s.prefix + (length m - 1) ≡ last_depth s = ap (λ (n : ℕ). length s.prefix + (n - 1)) long in
    let last = last-like s.layers m h in
    let count = length-like (last_layer s.layers) (last_layer m) last in
    let two = two-like s.layers m h in
    record {
      lawful = u.lawful;
      prepared = record { vars = u.prepared.vars; words = u.prepared.words; choices = u.prepared.choices; width = u.prepared.width; enough = u.prepared.enough; path = u.prepared.path };
      prefix = u.prefix;
      some = omega arith;
      low = omega arith;
      within = subst (λ (k : ℕ). IsLayerWithin dp k s.width (last_layer m)) (sym deep) (within-like dp (last_depth s) s.width (last_layer s.layers) (last_layer m) last u.within);
      two = λ less. subst (λ (k : ℕ). AreWithin dp (k - 1) s.width (last_two m)) (sym deep) (both-like dp (last_depth s - 1) s.width (last_two s.layers) (last_two m) two.0 two.1 (u.two (omega arith)));
      told = u.told ∙ (map-like (λ (n : DdNode). told_of dp (last_depth s) n.row) (λ a b e. ap (λ (n : DdNode). told_of dp (last_depth s) n.row) e) (last_layer s.layers) (last_layer m) last
          ∙ ap (λ (k : ℕ). map (λ (n : DdNode). told_of dp k n.row) (last_layer m)) (sym deep));
      unmerged = λ wide. each-like (λ (n : DdNode). 1 ≤ length n.path) (λ a b e p. subst (λ (n : DdNode). 1 ≤ length n.path) e p) (last_layer s.layers) (last_layer m) last (u.unmerged (omega arith));
      few = omega arith;
      one = λ same. (let least = u.one (omega arith) in omega arith);
      second = λ same. (let least = u.second (omega arith) in omega arith);
    }

-- layers that are equal in memory down to a depth are shown as the same
pub same-down : (old new : ℕ → List NodeView) (e : ℕ) (k m : ℕ) → k + m ≤ e → ((j : ℕ) → k ≤ j → j ≤ e → new j ≡ old j) → (ps : List (List ℕ)) → shown_down new ps k m ≡ shown_down old ps k m
same-down old new e k zero low same ps = ap (λ (l : List NodeView). shown_layer (path_in ps) l ∷ []) (same k (omega arith) (omega arith))
same-down old new e k (suc m) low same ps =
    let here = same k (omega arith) (omega arith) in
    let next = same (k + 1) (omega arith) (omega arith) in
    let rest = same-down old new e (k + 1) m (omega arith) (λ j above below. same j (omega arith) below) (paths_below ps (new (k + 1))) in
    ap₂ (λ (a : List DdNode) (b : List (List DdNode)). a ∷ b) (ap (shown_layer (path_in ps)) here) (rest ∙ ap (λ (l : List NodeView). shown_down old (paths_below ps l) (k + 1) m) next)
