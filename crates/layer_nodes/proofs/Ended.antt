-- Suffixes of nodes in memory, one after another.
use Rattle.std.proofs.Common.{◌≡◌, ◌≢◌, ℕ, zero, suc, ◌+◌, ◌<◌, ◌≤◌, ℤ, pos, ◌+ℤ◌, ◌<ℤ◌, int_lt, Bool, true, false, cond, List, [], ◌∷◌, length, map, take, set, get_or, slice_get, Option, Some, None, IfSome, option_and_then, refl, sym, ◌∙◌, ap, ap₂, subst, arith}
use Rattle.std.specs.List.{cons_option}
use Rattle.std.proofs.lemmas.Int.{ints}
use Rattle.std.proofs.lemmas.List.{map_more, length-map}
use Rattle.std.proofs.lemmas.List.Elements.{filter_map-append}
use Rattle.dp_model.specs.Lists.{Each}
use Rattle.dp_model.specs.Numbers.{add_some, greatest_from, greatest}
use Rattle.dp_laws.specs.declared.arc.DdArc.{DdArc}
use Rattle.layer_nodes.specs.declared.node.Node.{Node}
use Rattle.layer_nodes.specs.declared.routing.Route.{Route}
use Rattle.layer_nodes.specs.declared.routing.StoredArc.{StoredArc}
use Rattle.layer_nodes.specs.Nodes.{NodeView, LayerView}
use Rattle.layer_nodes.specs.Ending.{suffix_of, lengths, MayAdd, MayFollow, IsThere, MayLead, MayEnd, ended, ended_layer, at_end, suffixes_in, arcs_in, ended_in, at_end_in}
use Rattle.layer_nodes.specs.Merging.{greater}
use Rattle.layer_nodes.specs.Packed.{no_length}
use Rattle.layer_nodes.specs.Routing.{routed, routed_arcs}
use Rattle.layer_nodes.specs.Stored.{node_view_by, HasArcsIn, HasLayer}
use Rattle.layer_nodes.proofs.Merged.{greatest-option}
use Rattle.layer_nodes.proofs.Routed.{routed-lie}
use Rattle.layer_nodes.proofs.Stored.{each-get}

-- ---- a target

-- one that may be led to is there, with its suffix
pub lead-less : (nodes : List Node) (i : ℕ) → MayLead (suffixes_in nodes) (Some i) → i < length nodes
lead-less [] i h = absurd h
lead-less (n ∷ nodes) zero h = omega arith
lead-less (n ∷ nodes) (suc i) h = let rest = lead-less nodes i h in omega arith

pub lead-follows : (nodes : List Node) (i : ℕ) (d : Node) → MayLead (suffixes_in nodes) (Some i) → MayFollow (get_or nodes i d).suffix
lead-follows [] i d h = absurd h
lead-follows (n ∷ nodes) zero d h = h
lead-follows (n ∷ nodes) (suc i) d h = lead-follows nodes i d h

pub lead-suffix : (nodes : List Node) (i : ℕ) (d : Node) → i < length nodes → (get_or nodes i d).suffix ≡ suffix_of (suffixes_in nodes) (Some i)
lead-suffix [] i d less = absurd (omega arith)
lead-suffix (n ∷ nodes) zero d less = refl
lead-suffix (n ∷ nodes) (suc i) d less = lead-suffix nodes i d (omega arith)

-- ---- the arcs of a node

-- one of them, as it is read
pub routed-get : (P : DdArc → Type 0) (routes : List Route) (arcs : List StoredArc) (i : ℕ) (d : StoredArc) → Each P (routed_arcs routes arcs) → i < length arcs → P (routed routes (get_or arcs i d))
routed-get P routes [] i d h less = absurd (omega arith)
routed-get P routes (arc ∷ arcs) zero d h less = h.0
routed-get P routes (arc ∷ arcs) (suc i) d h less = routed-get P routes arcs i d h.1 (omega arith)

-- one arc more
pub longer-more : (suffixes : List (Option ℤ)) (routes : List Route) (arcs : List StoredArc) (i : ℕ) (d : StoredArc) (best best2 : Option ℤ) → i < length arcs → best ≡ greatest (lengths suffixes (routed_arcs routes (take i arcs)))
    → best2 ≡ greater best (add_some ((routed routes (get_or arcs i d)).gain +ℤ (routed routes (get_or arcs i d)).longer) (suffix_of suffixes (routed routes (get_or arcs i d)).target))
    → best2 ≡ greatest (lengths suffixes (routed_arcs routes (take (i + 1) arcs)))
longer-more suffixes routes arcs i d best best2 less h e =
    let arc = routed routes (get_or arcs i d) in
    let before = routed_arcs routes (take i arcs) in
    let length_of : DdArc → Option ℤ = λ a. add_some (a.gain +ℤ a.longer) (suffix_of suffixes a.target) in
    e ∙ (ap (λ b. greater b (length_of arc)) h
    ∙ sym (ap (λ l. greatest (lengths suffixes l)) (map_more (routed routes) arcs i d less)
    ∙ (ap greatest (filter_map-append length_of before (arc ∷ [])) ∙ greatest-option (lengths suffixes before) (length_of arc))))

-- ---- the length of a path is not the number that stands for none

-- the number is above it
abbrev IsAbove : ℤ → Type 0
IsAbove z = no_length <ℤ z

above-sum : (arc : DdArc) (suffix : Option ℤ) → MayAdd arc → MayFollow suffix → IfSome (add_some (arc.gain +ℤ arc.longer) suffix) IsAbove
above-sum arc None add follow = tt
above-sum arc (Some s) add follow = let gain = add.gain.low in let longer = add.longer.low in let low = follow.low in omega (arith, ints)

lead-may-follow : (suffixes : List (Option ℤ)) (target : Option ℕ) → MayLead suffixes target → MayFollow (suffix_of suffixes target)
lead-may-follow suffixes None h = tt
lead-may-follow suffixes (Some i) h = by (slice_get suffixes i) h
  where
    by : (found : Option (Option ℤ)) → IsThere found → MayFollow (option_and_then (λ s. s) found)
    by None h = absurd h
    by (Some suffix) h = h

above-cons : (length : Option ℤ) (zs : List ℤ) → IfSome length IsAbove → Each IsAbove zs → Each IsAbove (cons_option length zs)
above-cons None zs h rest = rest
above-cons (Some z) zs h rest = (h, rest)

above-lengths : (suffixes : List (Option ℤ)) (arcs : List DdArc) → Each MayAdd arcs → Each (λ (arc : DdArc). MayLead suffixes arc.target) arcs → Each IsAbove (lengths suffixes arcs)
above-lengths suffixes [] add lead = tt
above-lengths suffixes (arc ∷ arcs) add lead =
    above-cons (add_some (arc.gain +ℤ arc.longer) (suffix_of suffixes arc.target)) (lengths suffixes arcs)
    (above-sum arc (suffix_of suffixes arc.target) add.0 (lead-may-follow suffixes arc.target lead.0)) (above-lengths suffixes arcs add.1 lead.1)

above-greatest : (z : ℤ) (zs : List ℤ) → IsAbove z → Each IsAbove zs → IsAbove (greatest_from z zs)
above-greatest z [] h rest = h
above-greatest z (y ∷ ys) h rest = above-greatest (cond (int_lt z y) y z) ys (by (int_lt z y)) rest.1
  where
    by : (t : Bool) → IsAbove (cond t y z)
    by true = rest.0
    by false = h

pub greatest-packs : (suffixes : List (Option ℤ)) (arcs : List DdArc) → Each MayAdd arcs → Each (λ (arc : DdArc). MayLead suffixes arc.target) arcs → IfSome (greatest (lengths suffixes arcs)) (λ z. z ≢ no_length)
greatest-packs suffixes arcs add lead = by (lengths suffixes arcs) (above-lengths suffixes arcs add lead)
  where
    by : (zs : List ℤ) → Each IsAbove zs → IfSome (greatest zs) (λ z. z ≢ no_length)
    by [] h = tt
    by (z ∷ zs) h = λ e. let above : no_length <ℤ greatest_from z zs = above-greatest z zs h.0 h.1 in absurd (omega (arith, ints))

-- ---- the nodes of a layer

-- the first i of them are mapped
abbrev pub mapped_to : (Node → Node) → ℕ → List Node → List Node
mapped_to f zero xs = xs
mapped_to f (suc i) [] = []
mapped_to f (suc i) (x ∷ xs) = f x ∷ mapped_to f i xs

pub mapped-length : (f : Node → Node) (i : ℕ) (xs : List Node) → length (mapped_to f i xs) ≡ length xs
mapped-length f zero xs = refl
mapped-length f (suc i) [] = refl
mapped-length f (suc i) (x ∷ xs) = ap suc (mapped-length f i xs)

pub mapped-at : (f : Node → Node) (i : ℕ) (xs : List Node) (d : Node) → get_or (mapped_to f i xs) i d ≡ get_or xs i d
mapped-at f zero xs d = refl
mapped-at f (suc i) [] d = refl
mapped-at f (suc i) (x ∷ xs) d = mapped-at f i xs d

mapped-set : (f : Node → Node) (i : ℕ) (xs : List Node) (d y : Node) → i < length xs → y ≡ f (get_or xs i d) → set (mapped_to f i xs) i y ≡ mapped_to f (suc i) xs
mapped-set f i [] d y less is = absurd (omega arith)
mapped-set f zero (x ∷ xs) d y less is = ap (λ z. z ∷ xs) is
mapped-set f (suc i) (x ∷ xs) d y less is = ap (λ l. f x ∷ l) (mapped-set f i xs d y (omega arith) is)

pub mapped-more : (f : Node → Node) (i : ℕ) (xs : List Node) (d y : Node) → i < length xs → y ≡ f (get_or xs i d) → set (mapped_to f i xs) i y ≡ mapped_to f (i + 1) xs
mapped-more f i xs d y less is = let one : suc i ≡ i + 1 = omega arith in mapped-set f i xs d y less is ∙ ap (λ n. mapped_to f n xs) one

pub mapped-all : (f : Node → Node) (i : ℕ) (xs : List Node) → length xs ≤ i → mapped_to f i xs ≡ map f xs
mapped-all f zero [] end = refl
mapped-all f zero (x ∷ xs) end = absurd (omega arith)
mapped-all f (suc i) [] end = refl
mapped-all f (suc i) (x ∷ xs) end = ap (λ l. f x ∷ l) (mapped-all f i xs (omega arith))

-- the node that is next
pub end-may : (arcs : List DdArc) (suffixes : List (Option ℤ)) (old now : List Node) (i : ℕ) (d : Node) → Each (MayEnd arcs suffixes) old → i < length old → now ≡ mapped_to (ended_in arcs suffixes) i old → MayEnd arcs suffixes (get_or now i d)
end-may arcs suffixes old now i d h less e =
    subst (MayEnd arcs suffixes) (sym (ap (λ l. get_or l i d) e ∙ mapped-at (ended_in arcs suffixes) i old d)) (each-get (MayEnd arcs suffixes) old i d h less)

-- it gets its suffix
pub end-more : (arcs : List DdArc) (suffixes : List (Option ℤ)) (old now : List Node) (i : ℕ) (d : Node) (own : List DdArc) (suffix : Option ℤ) → i < length old → now ≡ mapped_to (ended_in arcs suffixes) i old
    → own ≡ arcs_in arcs (get_or now i d) → suffix ≡ greatest (lengths suffixes own) → set now i (record (get_or now i d) { suffix = suffix }) ≡ mapped_to (ended_in arcs suffixes) (i + 1) old
end-more arcs suffixes old now i d own suffix less e lie is =
    let f = ended_in arcs suffixes in
    let at : get_or now i d ≡ get_or old i d = ap (λ l. get_or l i d) e ∙ mapped-at f i old d in
    let value : suffix ≡ greatest (lengths suffixes (arcs_in arcs (get_or old i d))) = is ∙ ap (λ l. greatest (lengths suffixes l)) (lie ∙ ap (arcs_in arcs) at) in
    let done : record (get_or now i d) { suffix = suffix } ≡ f (get_or old i d) = ap₂ (λ (n : Node) (s : Option ℤ). record n { suffix = s }) at value in
    ap (λ l. set l i (record (get_or now i d) { suffix = suffix })) e ∙ mapped-more f i old d (record (get_or now i d) { suffix = suffix }) less done

pub last-more : (old now : List Node) (i : ℕ) (d : Node) (suffix : Option ℤ) → i < length old → now ≡ mapped_to at_end_in i old → suffix ≡ Some (pos 0) → set now i (record (get_or now i d) { suffix = suffix }) ≡ mapped_to at_end_in (i + 1) old
last-more old now i d suffix less e is =
    let at : get_or now i d ≡ get_or old i d = ap (λ l. get_or l i d) e ∙ mapped-at at_end_in i old d in
    let done : record (get_or now i d) { suffix = suffix } ≡ at_end_in (get_or old i d) = ap₂ (λ (n : Node) (s : Option ℤ). record n { suffix = s }) at is in
    ap (λ l. set l i (record (get_or now i d) { suffix = suffix })) e ∙ mapped-more at_end_in i old d (record (get_or now i d) { suffix = suffix }) less done

-- ---- as they are seen

may-end : (row : ℕ → List ℤ) (arcs : List DdArc) (suffixes : List (Option ℤ)) (nodes : List Node) → Each (HasArcsIn arcs) nodes
    → Each (λ (node : NodeView). Each MayAdd node.arcs) (map (node_view_by row arcs) nodes) → Each (λ (node : NodeView). Each (λ (arc : DdArc). MayLead suffixes arc.target) node.arcs) (map (node_view_by row arcs) nodes)
    → Each (MayEnd arcs suffixes) nodes
may-end row arcs suffixes [] lie add lead = tt
may-end row arcs suffixes (node ∷ nodes) lie add lead = (record { lie = lie.0; add = add.0; lead = lead.0 }, may-end row arcs suffixes nodes lie.1 add.1 lead.1)

-- the suffixes of nodes in memory
pub suffixes-seen : (row : ℕ → List ℤ) (arcs : List DdArc) (nodes : List Node) → suffixes_in nodes ≡ map (λ (b : NodeView). b.suffix) (map (node_view_by row arcs) nodes)
suffixes-seen row arcs [] = refl
suffixes-seen row arcs (node ∷ nodes) = ap (λ l. node.suffix ∷ l) (suffixes-seen row arcs nodes)

ended-views : (row : ℕ → List ℤ) (arcs : List DdArc) (suffixes : List (Option ℤ)) (nodes : List Node)
    → map (node_view_by row arcs) (map (ended_in arcs suffixes) nodes) ≡ map (ended suffixes) (map (node_view_by row arcs) nodes)
ended-views row arcs suffixes [] = refl
ended-views row arcs suffixes (node ∷ nodes) = ap (λ l. ended suffixes (node_view_by row arcs node) ∷ l) (ended-views row arcs suffixes nodes)

pub last-views : (row : ℕ → List ℤ) (arcs : List DdArc) (nodes : List Node) → map (node_view_by row arcs) (map at_end_in nodes) ≡ map at_end (map (node_view_by row arcs) nodes)
last-views row arcs [] = refl
last-views row arcs (node ∷ nodes) = ap (λ l. at_end (node_view_by row arcs node) ∷ l) (last-views row arcs nodes)

-- a node lies where it lay
ended-lie : (stored : List StoredArc) (arcs : List DdArc) (suffixes : List (Option ℤ)) (nodes : List Node) → Each (HasArcsIn stored) nodes → Each (HasArcsIn stored) (map (ended_in arcs suffixes) nodes)
ended-lie stored arcs suffixes [] h = tt
ended-lie stored arcs suffixes (node ∷ nodes) h = (h.0, ended-lie stored arcs suffixes nodes h.1)

pub last-lie : (arcs : List StoredArc) (nodes : List Node) → Each (HasArcsIn arcs) nodes → Each (HasArcsIn arcs) (map at_end_in nodes)
last-lie arcs [] h = tt
last-lie arcs (node ∷ nodes) h = (h.0, last-lie arcs nodes h.1)

-- ---- a layer, above one whose nodes are seen with these suffixes

module _ (words room nodes_room arcs_room routes_room : ℕ) (row : ℕ → List ℤ) (routes : List Route) (stored : List StoredArc) (nodes : List Node) (layer : LayerView) (seen : record { words = words; nodes = map (node_view_by row (routed_arcs routes stored)) nodes; nodes_room = room; arcs_room = arcs_room } ≡ layer)
    (kept : HasLayer room nodes nodes_room stored arcs_room routes_room) (suffixes : List (Option ℤ)) (arcs2 : List DdArc) (below nodes2 : List Node) (arcs_are : arcs2 ≡ routed_arcs routes stored) (nodes_are : nodes2 ≡ nodes) (below_are : suffixes_in below ≡ suffixes) where
  abbrev arcs : List DdArc
  arcs = routed_arcs routes stored

  pub layer-ends : Each (λ (node : NodeView). Each MayAdd node.arcs) layer.nodes → Each (λ (node : NodeView). Each (λ (arc : DdArc). MayLead suffixes arc.target) node.arcs) layer.nodes → Each (MayEnd arcs2 (suffixes_in below)) nodes2
  layer-ends add lead =
      let views = sym (ap (λ (l : LayerView). l.nodes) seen) in
      let all = may-end row arcs suffixes nodes (routed-lie routes stored nodes kept.arcs_lie) (subst (Each (λ (node : NodeView). Each MayAdd node.arcs)) views add)
      (subst (Each (λ (node : NodeView). Each (λ (arc : DdArc). MayLead suffixes arc.target) node.arcs)) views lead) in
      subst (Each (MayEnd arcs2 (suffixes_in below))) (sym nodes_are) (subst (λ s. Each (MayEnd arcs2 s) nodes) (sym below_are) (subst (λ a. Each (MayEnd a suffixes) nodes) (sym arcs_are) all))

  -- the nodes became these, and the layer is that of the rules
  pub record IsEnded (new : List Node) : Type 0 where
    pub size : length new ≡ length nodes
    pub stays : HasLayer room new nodes_room stored arcs_room routes_room
    pub ended : record { words = words; nodes = map (node_view_by row (routed_arcs routes stored)) new; nodes_room = room; arcs_room = arcs_room } ≡ ended_layer suffixes layer

  pub layer-ended : (new : List Node) → new ≡ map (ended_in arcs2 (suffixes_in below)) nodes2 → IsEnded new
  layer-ended new is =
      let mapped : new ≡ map (ended_in arcs suffixes) nodes = is ∙ (ap₂ (λ a s. map (ended_in a s) nodes2) arcs_are below_are ∙ ap (map (ended_in arcs suffixes)) nodes_are) in
      let long = length-map nodes (ended_in arcs suffixes) in
      let with_nodes : List NodeView → LayerView = λ ns. record { words = words; nodes = ns; nodes_room = room; arcs_room = arcs_room } in
      record {
        size = ap length mapped ∙ long;
        stays = subst (λ l. HasLayer room l nodes_room stored arcs_room routes_room) (sym mapped) (record {
          small = kept.small;
          fits = (let fit = kept.fits in omega arith);
          nodes_hold = kept.nodes_hold;
          few_arcs = kept.few_arcs;
          routes_hold = kept.routes_hold;
          arcs_lie = ended-lie stored arcs suffixes nodes kept.arcs_lie;
        });
        ended = ap with_nodes (ap (map (node_view_by row (routed_arcs routes stored))) mapped ∙ ended-views row arcs suffixes nodes) ∙ ap (ended_layer suffixes) seen;
      }
