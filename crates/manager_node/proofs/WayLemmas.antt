-- How transactions go through a manager: those of its script start there.
use Rattle.std.proofs.Common.{◌≡◌, ◌<◌, ◌≤◌, ◌+◌, ◌%◌, ◌^◌, ◌==◌, ℕ, Bool, true, false, cond, List, [], ◌∷◌, Option, Some, length, map, get_or, refl, sym, ◌∙◌, ap, subst, inl, inr, arith, append-nil, eq-eqb}
use Rattle.std.specs.List.{AllZip}
use Rattle.std.specs.Prelude.{◌⊎◌, All, IsTrue, flat_map, nat_lt, slice_get, unwrap_or}
use Rattle.std.proofs.Math.Pow.{pow_mono}
use Rattle.std.proofs.lemmas.Bool.{and_from, lt-ltb}
use Rattle.std.proofs.lemmas.List.Elements.{All-from_recursion}
use Rattle.std.proofs.lemmas.List.FromFn.{get_or-map-range_with_len, length-map-range_with_len}
use Rattle.axi_beats.specs.Lanes.{Span}
use Rattle.axi_beats.specs.declared.beat.Addr.{Addr}
use Rattle.axi_beats.specs.declared.beat.WBeat.{WBeat}
use Rattle.axi_beats.specs.declared.response.Resp.{Resp}
use Rattle.axi_history.specs.PortRules.{strobes_within}
use Rattle.axi_trail.specs.LinkContracts.{without_id}
use Rattle.axi_trail.specs.Schedule.{SameChain, Schedule, Share, no_share}
use Rattle.burst_address.proofs.LaneBytes.{lanes-on_bus, lanes-ordered}
use Rattle.burst_address.specs.Bytes.{burst_bytes}
use Rattle.burst_address.specs.Formulas.{beats_of}
use Rattle.burst_address.specs.Lanes.{first_lane, last_lane}
use Rattle.burst_address.specs.Legal.{IsLegal, page}
use Rattle.manager_node.specs.Beats.{data_beat, data_beats, item_request}
use Rattle.manager_node.specs.BurstLaws.{SendsItsBytes}
use Rattle.manager_node.specs.ManagerState.{ManagerState}
use Rattle.manager_node.specs.ManagerTrail.{HasItem, IsItsOwn, IsManagerLink, IsNewManager, item_origin, item_share, manager_kind, shares_of, spans_of}
use Rattle.manager_node.specs.Script.{ScriptItem}
use Rattle.manager_node.proofs.DataLaws.{data-strobes_within}
use Rattle.manager_node.proofs.NumberLemmas.{number-once}
use Rattle.manager_node.proofs.ScriptLemmas.{script-item}
use Rattle.node_shape.specs.LegalSchedule.{IsDataOf}
use Rattle.node_shape.specs.LinkForm.{FitsLink, LinkForm}
use Rattle.node_shape.specs.Way.{Origin, Way, start_here, with_responses}
use Rattle.node_shape.specs.WayLaws.{CutsFit, GoesBelow, HasWay, IsOrigin, OriginsFit, WaysSuit}
use Rattle.node_shape.specs.WaysAround.{GoesOnBy, IsCarried, StartsBy, StaysOff, WaysAround, WaysThrough}
use Rattle.node_shape.proofs.OneLinkLemmas.{of-one, one-has}
use Rattle.plain_lists.proofs.PlaceLemmas.{all-at, at-all, at-contains, contains-at, map-from, map-has}

-- strobes from a lane on, and up to another one, are within
within-lanes : (low high strobe : ℕ) → strobe % 2 ^ low ≡ 0 → strobe < 2 ^ (high + 1) → IsTrue (strobes_within low high strobe)
within-lanes low high strobe from up_to = and_from (strobe % 2 ^ low == 0) (nat_lt strobe (2 ^ (high + 1))) (eq-eqb (strobe % 2 ^ low) 0 from) (lt-ltb strobe (2 ^ (high + 1)) up_to)

-- The data of a write is that of its request, and its strobes stand on the bus.
module _ (bus : ℕ) (item : ScriptItem) (sends : SendsItsBytes bus item) where
  abbrev beats : ℕ
  beats = beats_of item.txn.request

  many : length (data_beats item bus) ≡ beats
  many = length-map-range_with_len (data_beat item bus) 0 beats

  beat-at : (n : ℕ) (past : WBeat) → n < beats → get_or (data_beats item bus) n past ≡ data_beat item bus n
  beat-at n past here = let same : 0 + n ≡ n = omega arith in get_or-map-range_with_len (data_beat item bus) 0 beats n n past here same

  item-data : IsDataOf bus (without_id (item_request item)) (data_beats item bus)
  item-data =
      let IsWithin : ℕ → WBeat → Type 0 = λ n beat. IsTrue (strobes_within (first_lane item.txn.request n bus) (last_lane item.txn.request n bus) beat.strobe) in
      record {
        whole = many;
        strobes = λ n past below.
            let here : n < beats = subst (λ (k : ℕ). n < k) many below in
            let lanes = data-strobes_within item bus n sends here in
            subst (IsWithin n) (sym (beat-at n past here)) (within-lanes (first_lane item.txn.request n bus) (last_lane item.txn.request n bus) (data_beat item bus n).strobe lanes.0 lanes.1);
        lasts = λ n past below. ap (λ (w : WBeat). w.last) (beat-at n past (subst (λ (k : ℕ). n < k) many below));
      }

  item-strobes : All (λ (w : WBeat). w.strobe < 2 ^ bus) (data_beats item bus)
  item-strobes = λ n past below.
      let here : n < beats = subst (λ (k : ℕ). n < k) many below in
      let lanes = data-strobes_within item bus n sends here in
      let on_bus = lanes-on_bus item.txn.request n bus sends.width in
      let order = lanes-ordered item.txn.request n bus sends.width sends.legal in
      let most : last_lane item.txn.request n bus + 1 ≤ bus = omega (arith, on_bus.1, order) in
      let power : 2 ^ (last_lane item.txn.request n bus + 1) ≤ 2 ^ bus = pow_mono most in
      subst (λ (w : WBeat). w.strobe < 2 ^ bus) (sym (beat-at n past here)) (omega (arith, lanes.1, power))

-- what the link below carries of a transaction fits it
module _ (s : ManagerState) (new : IsNewManager s) (k : ℕ) (item : ScriptItem) (at : slice_get s.script k ≡ Some item) where
  legal : IsLegal item.txn.request s.bus
  legal = at-all (λ (i : ScriptItem). IsLegal i.txn.request s.bus) s.script k item new.legal at

  sends-bytes : item.txn.write ≡ true → SendsItsBytes s.bus item
  sends-bytes write = record {
    width = new.bus_width;
    legal = legal;
    sent = (script-item s.script k item new.is_script at).bytes_sent ∙ ap (λ (b : Bool). cond b (length (burst_bytes item.txn.request)) 0) write;
  }

  abbrev part : Addr
  part = without_id (item_request item)

  abbrev data_of : Bool → List (List WBeat)
  data_of write = cond write (data_beats item s.bus ∷ []) []

  module _ (id_width : ℕ) where
    abbrev plain : LinkForm
    plain = record { lite = false; bus = s.bus; id_width = id_width; single = false }

    fits-plain : FitsLink plain item.txn.write (item_share s.bus s.lower item)
    fits-plain = record {
      width = new.bus_width;
      legal = All-from_recursion (λ (a : Addr). IsLegal a s.bus) (part ∷ []) (legal, tt);
      small = All-from_recursion (λ (a : Addr). a.addr < 2 ^ 63) (part ∷ []) ((script-item s.script k item new.is_script at).start, tt);
      single = λ is. absurd (cc);
      words = λ is. absurd (cc);
      write_data = λ write. subst (λ (b : Bool). AllZip (IsDataOf s.bus) (part ∷ []) (data_of b)) (sym write) (item-data s.bus item (sends-bytes write), tt);
      strobes = λ write.
          subst (λ (b : Bool). All (λ (w : WBeat). w.strobe < 2 ^ s.bus) (flat_map (λ (beats : List WBeat). beats) (data_of b))) (sym write)
          (subst (λ (ws : List WBeat). All (λ (w : WBeat). w.strobe < 2 ^ s.bus) ws) (sym (append-nil (data_beats item s.bus))) (item-strobes s.bus item (sends-bytes write)));
      no_data = λ read. ap data_of read;
      lanes = ap (λ (spans : List Span). cond item.txn.write [] spans) (sym (append-nil (spans_of s.bus item.txn.request)));
    }

    item-carried : (form : LinkForm) → form ≡ plain → IsCarried form item.txn.write s.lower (item_share s.bus s.lower item)
    item-carried form same = subst (λ (f : LinkForm). IsCarried f item.txn.write s.lower (item_share s.bus s.lower item)) (sym same) (record {
      fits = fits-plain;
      page = page item.txn.request.addr;
      in_page = All-from_recursion (λ (a : Addr). page a.addr ≡ page item.txn.request.addr) (part ∷ []) (refl, tt);
      before = item.txn.request.id ∷ [];
      chain = refl;
    })

same-form : (form : LinkForm) (s : ManagerState) → IsManagerLink form s → form ≡ record { lite = false; bus = s.bus; id_width = form.id_width; single = false }
same-form form s link =
    ap (λ (b : Bool). record { lite = b; bus = form.bus; id_width = form.id_width; single = form.single }) link.axi
    ∙ ap (λ (n : ℕ). record { lite = false; bus = n; id_width = form.id_width; single = form.single }) link.bus
    ∙ ap (λ (b : Bool). record { lite = false; bus = s.bus; id_width = form.id_width; single = b }) link.bursts

no-place : (i l : ℕ) → slice_get [] i ≡ Some l → ⊥
no-place i l at = absurd (cc)

-- What the link below carries of one direction, where the ways go through the manager.
module _ (s : ManagerState) (new : IsNewManager s) (forms : ℕ → LinkForm) (write : Bool) (carried : ℕ → ℕ → Option Share)
    (through : WaysThrough (start_here (map (item_origin s.bus s.lower) s.script)) [] (s.lower ∷ []) forms write carried) where
  abbrev way : Way
  way = start_here (map (item_origin s.bus s.lower) s.script)

  -- it carries a transaction of the script
  pub record Starts (number : ℕ) : Type 0 where
    pub place : ℕ
    pub item : ScriptItem
    pub at : slice_get s.script place ≡ Some item
    pub number_is : item.txn.number ≡ number
    pub direction : item.txn.write ≡ write
    pub responses : List Resp
    pub below : unwrap_or (carried s.lower number) no_share ≡ with_responses (item_share s.bus s.lower item) responses

  starts-here : (number : ℕ) → Starts number ⊎ ((unwrap_or (carried s.lower number) no_share ≡ no_share) × StaysOff way [] write carried s.lower number)
  starts-here number = go (through.out s.lower number (one-has s.lower))
    where
      go : StartsBy way [] write carried s.lower number ⊎ (GoesOnBy way [] write carried s.lower number ⊎ StaysOff way [] write carried s.lower number) →
          Starts number ⊎ ((unwrap_or (carried s.lower number) no_share ≡ no_share) × StaysOff way [] write carried s.lower number)
      go (inl starts) =
          let here : (k : ℕ) × (slice_get (map (item_origin s.bus s.lower) s.script) k ≡ Some starts.origin) = at-contains (map (item_origin s.bus s.lower) s.script) starts.origin starts.among in
          let from : (item : ScriptItem) × (slice_get s.script here.0 ≡ Some item) × (item_origin s.bus s.lower item ≡ starts.origin) = map-from (item_origin s.bus s.lower) s.script here.0 starts.origin here.1 in
          inl (record {
            place = here.0;
            item = from.0;
            at = from.1;
            number_is = ap (λ (o : Origin). o.number) from.2 ∙ starts.same_number;
            direction = ap (λ (o : Origin). o.write) from.2 ∙ starts.same_direction;
            responses = starts.responses;
            below = ap (λ (o : Option Share). unwrap_or o no_share) starts.below ∙ ap (λ (o : Origin). with_responses o.share starts.responses) (sym from.2);
          })
      go (inr (inl goes)) = absurd (no-place goes.input goes.link goes.at_input)
      go (inr (inr off)) = inr (ap (λ (o : Option Share). unwrap_or o no_share) off.below, off)

  -- each transaction of the script, as it is
  pub item-below : (k : ℕ) (item : ScriptItem) → slice_get s.script k ≡ Some item → item.txn.write ≡ write →
      (responses : List Resp) × (unwrap_or (carried s.lower item.txn.number) no_share ≡ with_responses (item_share s.bus s.lower item) responses)
  item-below k item at directed = go (starts-here item.txn.number)
    where
      go : Starts item.txn.number ⊎ ((unwrap_or (carried s.lower item.txn.number) no_share ≡ no_share) × StaysOff way [] write carried s.lower item.txn.number) →
          (responses : List Resp) × (unwrap_or (carried s.lower item.txn.number) no_share ≡ with_responses (item_share s.bus s.lower item) responses)
      go (inl starts) =
          let place : starts.place ≡ k = number-once s.script new.numbered starts.place k starts.item item starts.at at starts.number_is in
          let same : Some starts.item ≡ Some item = sym starts.at ∙ ap (slice_get s.script) place ∙ at in
          let one : starts.item ≡ item = cc in
          (starts.responses, starts.below ∙ ap (λ (i : ScriptItem). with_responses (item_share s.bus s.lower i) starts.responses) one)
      go (inr off) =
          absurd (off.1.no_origin (item_origin s.bus s.lower item)
          (contains-at (map (item_origin s.bus s.lower) s.script) k (item_origin s.bus s.lower item) (map-has (item_origin s.bus s.lower) s.script k item at)) refl directed refl)

  -- and of its chains only those
  pub chain-own : (number : ℕ) (item : ScriptItem) → (unwrap_or (carried s.lower number) no_share).chain ≡ s.lower ∷ item.txn.request.id ∷ [] → IsItsOwn s.script write item.txn.request.id number
  chain-own number item chain = go (starts-here number)
    where
      second : (a b c : ℕ) → a ∷ b ∷ [] ≡ a ∷ c ∷ [] → b ≡ c
      second a b c is = cc

      go : Starts number ⊎ ((unwrap_or (carried s.lower number) no_share ≡ no_share) × StaysOff way [] write carried s.lower number) → IsItsOwn s.script write item.txn.request.id number
      go (inl starts) = record {
        item = starts.item;
        among = contains-at s.script starts.place starts.item starts.at;
        direction = starts.direction;
        same_id = second s.lower starts.item.txn.request.id item.txn.request.id (sym (ap (λ (x : Share). x.chain) starts.below) ∙ chain);
        same_number = starts.number_is;
      }
      go (inr off) = absurd (let none : [] ≡ s.lower ∷ item.txn.request.id ∷ [] = sym (ap (λ (x : Share). x.chain) off.0) ∙ chain in cc)

module _ (s : ManagerState) (new : IsNewManager s) (forms : ℕ → LinkForm) (schedules : ℕ → Schedule)
    (ways : WaysAround (start_here (map (item_origin s.bus s.lower) s.script)) [] (s.lower ∷ []) forms schedules) where
  abbrev schedule : Schedule
  schedule = schedules s.lower

  item-there : (k : ℕ) (item : ScriptItem) → slice_get s.script k ≡ Some item → (write : Bool) → item.txn.write ≡ write →
      (responses : List Resp) × (shares_of schedule write item.txn.number ≡ with_responses (item_share s.bus s.lower item) responses)
  item-there k item at true directed =
      let below = item-below s new forms true ways.carried_writes ways.writes k item at directed in
      (below.0, ways.writes_are s.lower item.txn.number ∙ below.1)
  item-there k item at false directed =
      let below = item-below s new forms false ways.carried_reads ways.reads k item at directed in
      (below.0, ways.reads_are s.lower item.txn.number ∙ below.1)

  item-is : (link : IsManagerLink (forms s.lower) s) (k : ℕ) (item : ScriptItem) → slice_get s.script k ≡ Some item → HasItem schedule s.bus item
  item-is link k item at =
      let own = item-there k item at item.txn.write refl in
      let width : schedule.id_width ≡ (forms s.lower).id_width = of-one (λ l. (schedules l).id_width ≡ (forms l).id_width) s.lower ways.widths_below in
      record {
        parts = ap (λ (x : Share). x.parts) own.1;
        write_data = λ write.
            let here = item-there k item at true write in
            ap (λ (x : Share). x.write_data) here.1 ∙ ap (λ (b : Bool). cond b (data_beats item s.bus ∷ []) []) write;
        lanes = λ read.
            let here = item-there k item at false read in
            ap (λ (x : Share). x.lanes) here.1 ∙ ap (λ (b : Bool). cond b [] (spans_of s.bus item.txn.request)) read;
        id_fits = subst (λ (n : ℕ). item.txn.request.id < 2 ^ n) (sym width) (at-all (λ (i : ScriptItem). i.txn.request.id < 2 ^ (forms s.lower).id_width) s.script k item link.ids at);
      }

  item-chain : (item : ScriptItem) (write : Bool) (responses : List Resp) → shares_of schedule write item.txn.number ≡ with_responses (item_share s.bus s.lower item) responses →
      (number : ℕ) → SameChain (shares_of schedule write) number item.txn.number → IsItsOwn s.script write item.txn.request.id number
  item-chain item true responses is number chain =
      chain-own s new forms true ways.carried_writes ways.writes number item (sym (ap (λ (x : Share). x.chain) (ways.writes_are s.lower number)) ∙ chain ∙ ap (λ (x : Share). x.chain) is)
  item-chain item false responses is number chain =
      chain-own s new forms false ways.carried_reads ways.reads number item (sym (ap (λ (x : Share). x.chain) (ways.reads_are s.lower number)) ∙ chain ∙ ap (λ (x : Share). x.chain) is)

module _ (E : Type 0) where
  pub manager-has_way : HasWay (manager_kind {E = E})
  manager-has_way s = record {
    goes_on = λ share responses. refl;
    cut = λ share responses. refl;
    chain = λ share. refl;
    merged = λ write share responses below. refl;
    ends = λ write share responses. refl;
  }

  pub manager-goes_below : GoesBelow (manager_kind {E = E})
  manager-goes_below s share link goes = absurd (cc)

  pub manager-origins_fit : OriginsFit (manager_kind {E = E})
  manager-origins_fit forms schedules s new sound origin among =
      let here : (k : ℕ) × (slice_get (map (item_origin s.bus s.lower) s.script) k ≡ Some origin) = at-contains (map (item_origin s.bus s.lower) s.script) origin among in
      let from : (item : ScriptItem) × (slice_get s.script here.0 ≡ Some item) × (item_origin s.bus s.lower item ≡ origin) = map-from (item_origin s.bus s.lower) s.script here.0 origin here.1 in
      subst (λ (o : Origin). IsOrigin (manager_kind {E = E}) forms s o) from.2 (record {
        below = one-has s.lower;
        is = item-carried s new here.0 from.0 from.1 (forms s.lower).id_width (forms s.lower) (same-form (forms s.lower) s sound);
        no_responses = refl;
      })

  pub manager-cuts_fit : CutsFit (manager_kind {E = E})
  manager-cuts_fit forms schedules s new sound write link next share among carried goes = absurd (cc)

  pub manager-ways_suit : WaysSuit (manager_kind {E = E})
  manager-ways_suit forms schedules s new sound ways = record {
    numbered = new.numbered;
    items = all-at (HasItem (schedules s.lower) s.bus) s.script (item-is s new forms schedules ways sound);
    chains = all-at (λ (item : ScriptItem). (number : ℕ) → SameChain (shares_of (schedules s.lower) item.txn.write) number item.txn.number → IsItsOwn s.script item.txn.write item.txn.request.id number) s.script
        (λ k item at. let own = item-there s new forms schedules ways k item at item.txn.write refl in item-chain s new forms schedules ways item item.txn.write own.0 own.1);
  }
