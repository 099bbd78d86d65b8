-- Each step keeps the rule.
use Rattle.std.proofs.Common.{◌≡◌, ◌≢◌, ℕ, ◌+◌, ◌%◌, ◌^◌, ◌<◌, ◌≤◌, ◌⊎◌, zero, suc, cond, eqb}
use Rattle.std.proofs.Common.{eq-eqb, List, [], ◌∷◌, ◌++◌, length, get_or, set, Option, Some, refl}
use Rattle.std.proofs.Common.{sym, ap, ◌∙◌, subst, inl, inr, ⊎_elim, arith, append-nil}
use Rattle.std.proofs.Common.{length-append}
use Rattle.std.specs.List.{sum_by}
use Rattle.std.proofs.lemmas.List.Sums.{sum_by-cons, sum_by-append}
use mathlib.Core.Option.{some, none, some-injective, some-ne-none}
use mathlib.Core.Option as maybe
use lib.ListN.{get_elem?}
use lib.Seq.{set-get_or}
use Rattle.atomic_table.specs.Table.{State}
use Rattle.atomic_table.proofs.Lists.{at_set, set_again, set_else, at_longer, at_snoc, one_turn}
use Rattle.turnstile.specs.Entries.{entries_of}
use Rattle.turnstile.specs.Members.{first_of, others_of, pass_of, without_pass, joined, spent}
use Rattle.turnstile.specs.Members.{times, size, seen_of, AllKnow}
use Rattle.turnstile.specs.Tickets.{HasTicket, tickets, IsServed}
use Rattle.turnstile.specs.Rule.{held, Agrees, TicketsDiffer, IsHome, IsOut, Kept}
use Rattle.turnstile.specs.Steps.{seat_of, after_seeing, after_adding}
use Rattle.turnstile.specs.declared.knowledge.Stage.{Stage}
use Rattle.turnstile.specs.declared.knowledge.Stage.TheVariants.{Away, Waiting, Served, Noted}
use Rattle.turnstile.specs.declared.knowledge.Member.{Member}
use Rattle.turnstile.specs.declared.knowledge.Knowledge.{Knowledge}
use Rattle.turnstile.proofs.Totals.{total_set, total_same, one_le, two_le, all_le}
use Rattle.turnstile.proofs.Lines.{in_longer_line, in_shorter_line, below_next, ticket_of_served}
use Rattle.turnstile.proofs.Lines.{Added, added-own, entries_of-append, same_after, know_longer}

each_set : {A : Type 0} (P : A → Type 0) (views : List A) (id : ℕ) (w : A) → P w
    → ((j : ℕ) (v : A) → j ≢ id → get_elem? views j ≡ some v → P v)
    → (j : ℕ) (v : A) → get_elem? (set views id w) j ≡ some v → P v
each_set P views id w mine others j v at =
    ⊎_elim (λ (t : (j ≡ id) × (w ≡ v)). subst P t.1 mine)
    (λ (t : (j ≢ id) × (get_elem? views j ≡ some v)). others j v t.0 t.1)
    (at_set views id j w v at)

same_view : {A : Type 0} (xs : List A) (i j : ℕ) (a b : A) → get_elem? xs i ≡ some a
    → get_elem? xs j ≡ some b → i ≡ j → a ≡ b
same_view xs i j a b at there e = some-injective a b (sym at ∙ (ap (λ k. get_elem? xs k) e ∙ there))

set_at : {A : Type 0} (xs : List A) (i : ℕ) (a b : A) → get_elem? xs i ≡ some a
    → get_elem? (set xs i b) i ≡ some b
set_at [] i a b at = absurd (some-ne-none a (sym at))
set_at (x ∷ xs) zero a b at = refl
set_at (x ∷ xs) (suc i) a b at = set_at xs i a b at

held_at_most : (st : Stage) (n : ℕ) → (tickets st ≡ 1 → n ≡ 1) → tickets st ≤ n
held_at_most Away n h = omega arith
held_at_most (Waiting t) n h = let e : n ≡ 1 = h refl in omega arith
held_at_most (Served t) n h = let e : n ≡ 1 = h refl in omega arith
held_at_most (Noted t) n h = let e : n ≡ 1 = h refl in omega arith

module _ {E T : Type 0} where
  times_own : (st : Stage) (m : Member E T) → times m.worker (seat_of st m) ≡ 1
  times_own st m = ap (λ b. 0 + cond {A = ℕ} b 1 0) (eq-eqb m.worker m.worker refl)

  -- a seat's new ticket is one that no other seat has
  differ_set : (views : List (Knowledge E T)) (id : ℕ) (w : Knowledge E T) → TicketsDiffer views
      → ((t : ℕ) → HasTicket w.stage t → (j : ℕ) (v : Knowledge E T) → j ≢ id
      → get_elem? views j ≡ some v → HasTicket v.stage t → ⊥)
      → TicketsDiffer (set views id w)
  differ_set views id w differ new i j v u t at there has has' =
      ⊎_elim
      (λ (p : (i ≡ id) × (w ≡ v)). ⊎_elim
      (λ (q : (j ≡ id) × (w ≡ u)). p.0 ∙ sym q.0)
      (λ (q : (j ≢ id) × (get_elem? views j ≡ some u)). absurd
      (new t (subst (λ (x : Knowledge E T). HasTicket x.stage t) (sym p.1) has) j u q.0 q.1
      has'))
      (at_set views id j w u there))
      (λ (p : (i ≢ id) × (get_elem? views i ≡ some v)). ⊎_elim
      (λ (q : (j ≡ id) × (w ≡ u)). absurd (new t
      (subst (λ (x : Knowledge E T). HasTicket x.stage t) (sym q.1) has') i v p.0 p.1 has))
      (λ (q : (j ≢ id) × (get_elem? views j ≡ some u)). differ i j v u t p.1 q.1 has has')
      (at_set views id j w u there))
      (at_set views id i w v at)

  differ_snoc : (views : List (Knowledge E T)) (w : Knowledge E T)
      → ((t : ℕ) → HasTicket w.stage t → ⊥) → TicketsDiffer views → TicketsDiffer (views ++ w ∷ [])
  differ_snoc views w bare differ i j v u t at there has has' =
      ⊎_elim
      (λ (p : get_elem? views i ≡ some v). ⊎_elim
      (λ (q : get_elem? views j ≡ some u). differ i j v u t p q has has')
      (λ (q : w ≡ u). absurd (bare t (subst (λ (x : Knowledge E T). HasTicket x.stage t) (sym q)
      has')))
      (at_snoc views w u j there))
      (λ (p : w ≡ v). absurd (bare t (subst (λ (x : Knowledge E T). HasTicket x.stage t) (sym p)
      has)))
      (at_snoc views w v i at)

  module _ (history : List (ℕ × E)) (origin : T) where
    others_know : (ms : List (Member E T)) → AllKnow history origin ms
        → AllKnow history origin (others_of ms)
    others_know [] k = tt
    others_know (m ∷ ms) k = k.1

    first_knows : (ms : List (Member E T)) → AllKnow history origin ms
        → AllKnow history origin (first_of ms)
    first_knows [] k = tt
    first_knows (m ∷ ms) k = (k.0, tt)

    both_know : (ms ns : List (Member E T)) → AllKnow history origin ms → AllKnow history origin ns
        → AllKnow history origin (ms ++ ns)
    both_know [] ns k l = l
    both_know (m ∷ ms) ns k l = (k.0, both_know ms ns k.1 l)

  -- f counts members
  abbrev Counts : (Knowledge E T → ℕ) → Type 0
  Counts f = (st : Stage) (ms ns : List (Member E T))
      → f record { stage = st; members = ms ++ ns }
      ≡ f record { stage = st; members = ms } + f record { stage = Away; members = ns }

  cut_at : (f : Knowledge E T → ℕ) → f spent ≡ 0 → Counts f → (ms : List (Member E T))
      → f record { stage = Away; members = others_of ms }
      + f record { stage = Away; members = first_of ms }
      ≡ f record { stage = Away; members = ms }
  cut_at f bare adds [] = omega arith
  cut_at f bare adds (m ∷ ms) = let e = adds Away (m ∷ []) ms in omega arith

  cut_adds : (f : Knowledge E T → ℕ) → f spent ≡ 0 → Counts f → (v : Knowledge E T) → v.stage ≡ Away
      → f (without_pass v) + f (pass_of v) ≡ f v
  cut_adds f bare adds v away =
      cut_at f bare adds v.members ∙ ap (λ (st : Stage). f record
      { stage = st; members = v.members }) (sym away)

  join_adds : (f : Knowledge E T → ℕ) → Counts f → (v w : Knowledge E T) → v.stage ≡ Away
      → w.stage ≡ Away → f (joined v w) ≡ f v + f w
  join_adds f adds v w away away' =
      let a = adds Away w.members v.members in
      let b = ap (λ (st : Stage). f record { stage = st; members = v.members }) away in
      let c = ap (λ (st : Stage). f record { stage = st; members = w.members }) away' in omega arith

module _ {B E T : Type 0} (entries : B → List (ℕ × E)) (root : B → T) (passes : ℕ) (origin : T)
  where
    abbrev pub V : Type 0
    V = Knowledge E T

    abbrev pub St : Type 0
    St = State (Option B) V

    abbrev pub Rule : St → Type 0
    Rule = Kept entries root passes origin

    -- a step after which one seat has the same numbers as before
    moved : (s : St) (r : Rule s) (id : ℕ) (v w : V) (words : List ℕ)
        (homes : List (maybe.Option (Option B))) (history : List (ℕ × E)) (served next : ℕ)
        → get_elem? s.views id ≡ some v
        → ((k : ℕ) → times k w ≡ times k v) → size w ≡ size v
        → served + held w + r.next ≡ next + r.served + held v
        → words ≡ length history ∷ next % 2 ^ 64 ∷ served % 2 ^ 64 ∷ []
        → ((t : ℕ) → HasTicket w.stage t → (j : ℕ) (u : V) → j ≢ id → get_elem? s.views j ≡ some u
        → HasTicket u.stage t → ⊥)
        → Agrees history origin served next w
        → ((j : ℕ) (u : V) → j ≢ id → get_elem? s.views j ≡ some u
        → Agrees r.history origin r.served r.next u → Agrees history origin served next u)
        → (IsHome entries root history origin record
        { words = words; homes = homes; views = set s.views id w }
        ⊎ IsOut entries root history record {
          words = words;
          homes = homes;
          views
              = set s.views id w;
        })
        → ((k : ℕ) → passes ≤ k → entries_of k history ≡ [])
        → Rule record { words = words; homes = homes; views = set s.views id w }
    moved s r id v w words homes history served next at numbers as_many drift are new mine
        others slot
        nobody = record {
          history = history;
          served = served;
          next = next;
          words = are;
          few = r.few;
          all = total_same size s.views id v w at as_many ∙ r.all;
          once = λ k. let e = total_same (times k) s.views id v w at (numbers k) in let o = r.once k
              in omega arith;
          known = λ k le. total_same (times k) s.views id v w at (numbers k) ∙ r.known k le;
          out = let e = total_set held s.views id v w at in let o = r.out in omega arith;
          differ = differ_set s.views id w r.differ new;
          each = each_set (λ u. Agrees history origin served next u) s.views id w mine
              (λ j u ne there. others j u ne there (r.each j u there));
          slot = slot;
          nobody_else = nobody;
        }

    held_le : {history : List (ℕ × E)} {served next : ℕ} (u : V)
        → Agrees history origin served next u
        → held u ≤ size u
    held_le u a = held_at_most u.stage (size u) a.alone

    -- a ticket is drawn
    pub draws : (s : St) (r : Rule s) (id : ℕ) (m : Member E T)
        → get_elem? s.views id ≡ some (seat_of Away m)
        → Rule record {
          words = set s.words 1 ((get_or s.words 1 0 + 1) % 2 ^ 64);
          homes
              = s.homes;
          views = set s.views id (seat_of (Waiting r.next) m);
        }
    draws s r id m at =
        let w : V = seat_of (Waiting r.next) m in
        let mine = r.each id (seat_of Away m) at in
        moved s r id (seat_of Away m) w (set s.words 1 ((get_or s.words 1 0 + 1) % 2 ^ 64)) s.homes
        r.history r.served (r.next + 1) at
        (λ k. refl) refl (omega arith)
        (ap (λ ws. set ws 1 ((get_or ws 1 0 + 1) % 2 ^ 64)) r.words
        ∙ ap (λ (n : ℕ). length r.history ∷ n ∷ r.served % 2 ^ 64 ∷ [])
        (let e : (r.next % 2 ^ 64 + 1) % 2 ^ 64 ≡ (r.next + 1) % 2 ^ 64 = omega arith in e))
        (λ t has j u ne there has'. let e : r.next ≡ t = has
        in let l = below_next r.served r.next u.stage t has' (r.each j u there).in_line
        in absurd (omega arith))
        record {
          members = mine.members;
          in_line = let o = r.out in (omega arith, omega arith);
          alone = λ _. refl;
        }
        (λ j u ne there a. record {
          members = a.members;
          in_line
              = in_longer_line r.served r.next u.stage a.in_line;
          alone = a.alone;
        })
        (⊎_elim
        (λ (h : IsHome entries root r.history origin s). inl record {
          value = h.value;
          home = h.home;
          list = h.list;
          same_root = h.same_root;
          nobody = each_set (λ u. IsServed u.stage → ⊥) s.views id w (λ no. no)
              (λ j u ne there. h.nobody j u there);
        })
        (λ (o : IsOut entries root r.history s). inr record {
          seat = o.seat;
          view = o.view;
          there = set_else s.views id o.seat w
              (λ e. absurd (subst (λ (u : V). IsServed u.stage)
              (same_view s.views o.seat id o.view (seat_of Away m) o.there at e) o.served))
              ∙ o.there;
          served = o.served;
          seen = o.seen;
          away = o.away;
        })
        r.slot)
        r.nobody_else

    -- a view whose ticket is served is the only one
    same_seat : (s : St) (r : Rule s) (i j : ℕ) (v w : V) → get_elem? s.views i ≡ some v
        → get_elem? s.views j ≡ some w → IsServed v.stage → HasTicket w.stage r.served → i ≡ j
    same_seat s r i j v w at there is has = r.differ i j v w r.served at there
        (ticket_of_served r.served r.next v.stage is (r.each i v at).in_line) has

    -- the ticket that word 2 holds is the one that is served
    pub its_turn : (s : St) (r : Rule s) (id t : ℕ) (m : Member E T)
        → get_elem? s.views id ≡ some (seat_of (Waiting t) m) → get_or s.words 2 0 ≡ t % 2 ^ 64
        → r.served ≡ t
    its_turn s r id t m at hit =
        let line = (r.each id (seat_of (Waiting t) m) at).in_line in
        let low : r.served ≤ t = line.0 in
        let high : t < r.next = line.1 in
        let few : sum_by held s.views ≤ sum_by size s.views
        = all_le held size s.views (λ j u there. held_le u (r.each j u there)) in
        let all = r.all in let out = r.out in let small = r.few in
        one_turn r.served t (2 ^ 64) low (omega arith)
        (sym (ap (λ ws. get_or ws 2 0) r.words) ∙ hit)

    -- then the slot is at home
    pub home_at : (s : St) (r : Rule s) (id t : ℕ) (m : Member E T)
        → get_elem? s.views id ≡ some (seat_of (Waiting t) m) → r.served ≡ t
        → IsHome entries root r.history origin s
    home_at s r id t m at turn = ⊎_elim (λ (h : IsHome entries root r.history origin s). h)
        (λ (o : IsOut entries root r.history s).
        let e = same_seat s r o.seat id o.view (seat_of (Waiting t) m) o.there at o.served
        (sym turn)
        in
        absurd (subst (λ (u : V). IsServed u.stage)
        (same_view s.views o.seat id o.view (seat_of (Waiting t) m) o.there at e) o.served))
        r.slot

    -- a look finds the ticket served, and the slot is taken
    pub takes_it : (s : St) (r : Rule s) (id t : ℕ) (m : Member E T)
        → get_elem? s.views id ≡ some (seat_of (Waiting t) m) → r.served ≡ t
        → (h : IsHome entries root r.history origin s)
        → Rule record {
          words = set s.words 2 (get_or s.words 2 0);
          homes = set s.homes 0 none;
          views
              = set s.views id (seat_of (Served t) (after_seeing (entries h.value) m));
        }
    takes_it s r id t m at turn h =
        let v : V = seat_of (Waiting t) m in
        let w : V = seat_of (Served t) (after_seeing (entries h.value) m) in
        let a = r.each id v at in let k = a.members.0 in let line = a.in_line in
        moved s r id v w (set s.words 2 (get_or s.words 2 0)) (set s.homes 0 none) r.history
        r.served
        r.next at
        (λ k. refl) refl (omega arith)
        (set-get_or s.words 2 0 ∙ r.words)
        (λ u has j x ne there has'. ne (r.differ j id x v u there at has' has))
        record {
          members = (
            record {
              begins = ([], sym h.list ∙ sym (append-nil (entries h.value)));
              mine
                  = k.mine;
              root = k.root;
            },
            tt,
          );
          in_line = (sym turn, line.1);
          alone = λ _. refl;
        }
        (λ j u ne there a. a)
        (inr record {
          seat = id;
          view = w;
          there = set_at s.views id v w at;
          served = tt;
          seen = h.list;
          away = ap (λ hs. set hs 0 none) h.home;
        })
        r.nobody_else

    -- a look that changes nothing
    pub unchanged : (s : St) (r : Rule s) (id : ℕ) (v : V) → get_elem? s.views id ≡ some v
        → Rule record {
          words = set s.words 2 (get_or s.words 2 0);
          homes = s.homes;
          views
              = set s.views id v;
        }
    unchanged s r id v at = let same : Path St s record
        { words = set s.words 2 (get_or s.words 2 0); homes = s.homes; views = set s.views id v }
        = λ i. record {
          words = sym (set-get_or s.words 2 0) i;
          homes = s.homes;
          views
              = sym (set_again s.views id v at) i;
        } in
        subst Rule same r

    -- while a seat is served, the history is what it has seen
    out_at : (s : St) (r : Rule s) (id : ℕ) (st : Stage) (m : Member E T)
        → get_elem? s.views id ≡ some (seat_of st m) → IsServed st
        → (m.seen ≡ r.history) × (s.homes ≡ none ∷ [])
    out_at s r id st m at is = let v : V = seat_of st m
        in ⊎_elim (λ (h : IsHome entries root r.history origin s). absurd (h.nobody id v at is))
        (λ (o : IsOut entries root r.history s).
        let e = same_seat s r o.seat id o.view v o.there at o.served
        (ticket_of_served r.served r.next st is (r.each id v at).in_line) in
        let is_it = same_view s.views o.seat id o.view v o.there at e in
        (ap (λ (u : V). seen_of u.members) (sym is_it) ∙ o.seen, o.away))
        r.slot

    -- the number of entries is stored
    pub notes : (s : St) (r : Rule s) (id t count : ℕ) (m : Member E T) (list added : List (ℕ × E))
        → get_elem? s.views id ≡ some (seat_of (Served t) m)
        → list ≡ m.seen ++ added → Added m.worker added → count ≡ length list
        → Rule record {
          words = set s.words 0 count;
          homes = s.homes;
          views
              = set s.views id (seat_of (Noted t) (after_adding list added m));
        }
    notes s r id t count m list added at is own counted =
        let v : V = seat_of (Served t) m in
        let w : V = seat_of (Noted t) (after_adding list added m) in
        let a = r.each id v at in let k = a.members.0 in let line = a.in_line in
        let now = out_at s r id (Served t) m at tt in
        let longer : list ≡ r.history ++ added = is ∙ ap (λ xs. xs ++ added) now.0 in
        let mine = times_own (Served t) m in
        moved s r id v w (set s.words 0 count) s.homes list r.served r.next at
        (λ k. refl) refl (omega arith)
        (ap (λ ws. set ws 0 count) r.words ∙ ap (λ (n : ℕ). n ∷ r.next % 2 ^ 64 ∷ r.served % 2 ^ 64
        ∷ []) counted)
        (λ u has j x ne there has'. ne (r.differ j id x v u there at has' has))
        record {
          members = (
            record {
              begins = ([], sym (append-nil list));
              mine = ap (entries_of m.worker) longer
                  ∙ (entries_of-append m.worker r.history added
                  ∙ (λ i. k.mine i ++ added-own m.worker added own i));
              root = k.root;
            },
            tt,
          );
          in_line = line;
          alone = λ _. refl;
        }
        (λ j u ne there b. record {
          members = subst (λ xs. AllKnow xs origin u.members) (sym longer)
              (know_longer origin m.worker r.history added own u.members
              (let two = two_le (times m.worker) s.views id j v u (λ e. ne (sym e)) at there
              in let o = r.once m.worker in omega arith) b.members);
          in_line = b.in_line;
          alone = b.alone;
        })
        (inr record {
          seat = id;
          view = w;
          there = set_at s.views id v w at;
          served = tt;
          seen = refl;
          away = now.1;
        })
        (λ k le. ap (entries_of k) longer ∙ (same_after m.worker k r.history added
        (λ e. let one = one_le (times k) s.views id v at in let none_is = r.known k le
        in let here : times k v ≡ 1 = ap (λ n. times n v) (sym e) ∙ mine in absurd (omega arith))
        own
        ∙ r.nobody_else k le))

    -- the slot and the ticket are given back
    pub gives_back : (s : St) (r : Rule s) (id t stored : ℕ) (m : Member E T) (value : B)
        → get_elem? s.views id ≡ some (seat_of (Noted t) m)
        → entries value ≡ m.seen → root value ≡ m.root → stored ≡ (t + 1) % 2 ^ 64
        → Rule record {
          words = set s.words 2 stored;
          homes = set s.homes 0 (some (Some value));
          views
              = set s.views id (seat_of Away m);
        }
    gives_back s r id t stored m value at list same_root is =
        let v : V = seat_of (Noted t) m in
        let w : V = seat_of Away m in
        let a = r.each id v at in let k = a.members.0 in let line = a.in_line in
        let now = out_at s r id (Noted t) m at tt in
        let turn : t ≡ r.served = line.0 in
        moved s r id v w (set s.words 2 stored) (set s.homes 0 (some (Some value))) r.history
        (r.served + 1) r.next at
        (λ k. refl) refl (omega arith)
        (ap (λ ws. set ws 2 stored) r.words ∙
        ap (λ (n : ℕ). length r.history ∷ r.next % 2 ^ 64 ∷ n ∷ [])
        (is ∙ ap (λ (n : ℕ). (n + 1) % 2 ^ 64) turn))
        (λ u no. absurd no)
        record { members = a.members; in_line = tt; alone = λ e. absurd (omega arith) }
        (λ j u ne there b. record {
          members = b.members;
          in_line = in_shorter_line r.served r.next u.stage
              (λ has. ne (r.differ j id u v r.served there at has turn)) b.in_line;
          alone = b.alone;
        })
        (inl record {
          value = value;
          home = ap (λ hs. set hs 0 (some (Some value))) now.1;
          list = list ∙ now.0;
          same_root = same_root ∙ k.root;
          nobody = each_set (λ u. IsServed u.stage → ⊥) s.views id w (λ no. no)
              (λ j u ne there served. ne (same_seat s r j id u v there at served turn));
        })
        r.nobody_else

    -- a step after which the history, the words and the slot are as before, and the seats' numbers
    -- are dealt anew
    dealt : (s : St) (r : Rule s) (views : List V)
        → ((f : V → ℕ) → f spent ≡ 0 → ((st : Stage) (ms ns : List (Member E T))
        → f record { stage = st; members = ms ++ ns }
        ≡ f record { stage = st; members = ms } + f record { stage = Away; members = ns })
        → sum_by f views ≡ sum_by f s.views)
        → TicketsDiffer views
        → ((j : ℕ) (u : V) → get_elem? views j ≡ some u → Agrees r.history origin r.served r.next u)
        → (IsHome entries root r.history origin record
        { words = s.words; homes = s.homes; views = views }
        ⊎ IsOut entries root r.history record { words = s.words; homes = s.homes; views = views })
        → Rule record { words = s.words; homes = s.homes; views = views }
    dealt s r views sums differ each slot =
        let sizes : sum_by size views ≡ sum_by size s.views
        = sums size refl (λ st ms ns. length-append ms ns) in
        let helds : sum_by held views ≡ sum_by held s.views
        = sums held refl (λ st ms ns. omega arith)
        in
        let all_times : (k : ℕ) → sum_by (times k) views
        ≡ sum_by (times k) s.views = λ k. sums (times k) refl
        (λ st ms ns. sum_by-append (λ (m : Member E T). cond (eqb m.worker k) 1 0) ms ns)
        in record {
          history = r.history;
          served = r.served;
          next = r.next;
          words = r.words;
          few = r.few;
          all = sizes ∙ r.all;
          once = λ k. let e = all_times k in let o = r.once k in omega arith;
          known = λ k le. all_times k ∙ r.known k le;
          out = let o = r.out in omega arith;
          differ = differ;
          each = each;
          slot = slot;
          nobody_else = r.nobody_else;
        }

    slot_stays : (s : St) (r : Rule s) (views : List V)
        → ((j : ℕ) (u : V) → IsServed u.stage → get_elem? s.views j ≡ some u
        → get_elem? views j ≡ some u)
        → ((j : ℕ) (u : V) → IsServed u.stage → get_elem? views j ≡ some u
        → get_elem? s.views j ≡ some u)
        → IsHome entries root r.history origin record
        { words = s.words; homes = s.homes; views = views }
        ⊎ IsOut entries root r.history record { words = s.words; homes = s.homes; views = views }
    slot_stays s r views stays was = ⊎_elim
        (λ (h : IsHome entries root r.history origin s). inl record {
          value = h.value;
          home = h.home;
          list = h.list;
          same_root = h.same_root;
          nobody = λ j u at is. h.nobody j u (was j u is at) is;
        })
        (λ (o : IsOut entries root r.history s). inr record {
          seat = o.seat;
          view = o.view;
          there = stays o.seat o.view o.served o.there;
          served = o.served;
          seen = o.seen;
          away = o.away;
        })
        r.slot

    not_served : (st : Stage) → st ≡ Away → IsServed st → ⊥
    not_served st e is = subst IsServed e is

    agrees_away : {history : List (ℕ × E)} {served next : ℕ} (ms : List (Member E T))
        → AllKnow history origin ms → Agrees history origin served next record
        { stage = Away; members = ms }
    agrees_away ms know = record { members = know; in_line = tt; alone = λ e. absurd (omega arith) }

    -- a pass is cut off
    pub splits : (s : St) (r : Rule s) (id : ℕ) (v : V) → get_elem? s.views id ≡ some v
        → v.stage ≡ Away
        → Rule record {
          words = s.words;
          homes = s.homes;
          views = set s.views id (without_pass v)
              ++ pass_of v ∷ [];
        }
    splits s r id v at away =
        let left : V = without_pass v in let right : V = pass_of v in
        let mine = r.each id v at in
        let others : (j : ℕ) (u : V) → IsServed u.stage → get_elem? s.views j ≡ some u
        → get_elem? (set s.views id left ++ right ∷ []) j ≡ some u =
        λ j u is there. at_longer (set s.views id left) (right ∷ []) j u
        (set_else s.views id j left (λ e. absurd
        (not_served v.stage away (subst (λ (x : V). IsServed x.stage)
        (same_view s.views j id u v there at e) is))) ∙ there) in
        let was : (j : ℕ) (u : V) → IsServed u.stage
        → get_elem? (set s.views id left ++ right ∷ []) j ≡ some u
        → get_elem? s.views j ≡ some u =
        λ j u is there. ⊎_elim
        (λ (p : get_elem? (set s.views id left) j ≡ some u). ⊎_elim
        (λ (q : (j ≡ id) × (left ≡ u)). absurd (subst (λ (x : V). IsServed x.stage) (sym q.1) is))
        (λ (q : (j ≢ id) × (get_elem? s.views j ≡ some u)). q.1)
        (at_set s.views id j left u p))
        (λ (q : right ≡ u). absurd (subst (λ (x : V). IsServed x.stage) (sym q) is))
        (at_snoc (set s.views id left) right u j there) in
        dealt s r (set s.views id left ++ right ∷ [])
        (λ f bare adds.
        let a = sum_by-append f (set s.views id left) (right ∷ []) in
        let b = total_set f s.views id v left at in
        let c = sum_by-cons f right [] in
        let d : f left + f right ≡ f v = cut_adds f bare adds v away in omega arith)
        (differ_snoc (set s.views id left) right (λ t no. no)
        (differ_set s.views id left r.differ (λ t no. absurd no)))
        (λ j u there. ⊎_elim
        (each_set (λ x. Agrees r.history origin r.served r.next x) s.views id left
        (agrees_away (others_of v.members) (others_know r.history origin v.members mine.members))
        (λ i x ne here. r.each i x here) j u)
        (λ (q : right ≡ u). subst (λ x. Agrees r.history origin r.served r.next x) q
        (agrees_away (first_of v.members) (first_knows r.history origin v.members mine.members)))
        (at_snoc (set s.views id left) right u j there))
        (slot_stays s r (set s.views id left ++ right ∷ []) others was)

    -- a pass is taken in
    pub joins : (s : St) (r : Rule s) (id other : ℕ) (v w : V) → get_elem? s.views id ≡ some v
        → other ≢ id → get_elem? (set s.views id (joined v w)) other ≡ some w
        → v.stage ≡ Away → w.stage ≡ Away
        → Rule record {
          words = s.words;
          homes = s.homes;
          views
              = set (set s.views id (joined v w)) other spent;
        }
    joins s r id other v w at apart there away away' =
        let both : V = joined v w in let vs : List V = set s.views id both in
        let there' : get_elem? s.views other ≡ some w = sym (set_else s.views id other both apart)
        ∙ there in
        let a = r.each id v at in let b = r.each other w there' in
        let stays : (j : ℕ) (u : V) → IsServed u.stage → get_elem? s.views j ≡ some u
        → get_elem? (set vs other spent) j ≡ some u =
        λ j u is here.
        set_else vs other j spent (λ e. absurd
        (not_served w.stage away' (subst (λ (x : V). IsServed x.stage)
        (same_view s.views j other u w here there' e) is)))
        ∙ (set_else s.views id j both (λ e. absurd
        (not_served v.stage away (subst (λ (x : V). IsServed x.stage)
        (same_view s.views j id u v here at e) is))) ∙ here) in
        let was : (j : ℕ) (u : V) → IsServed u.stage → get_elem? (set vs other spent) j ≡ some u
        → get_elem? s.views j ≡ some u =
        λ j u is here. ⊎_elim
        (λ (p : (j ≡ other) × (spent ≡ u)). absurd
        (subst (λ (x : V). IsServed x.stage) (sym p.1) is))
        (λ (p : (j ≢ other) × (get_elem? vs j ≡ some u)). ⊎_elim
        (λ (q : (j ≡ id) × (both ≡ u)). absurd (subst (λ (x : V). IsServed x.stage) (sym q.1) is))
        (λ (q : (j ≢ id) × (get_elem? s.views j ≡ some u)). q.1)
        (at_set s.views id j both u p.1))
        (at_set vs other j spent u here) in
        dealt s r (set vs other spent)
        (λ f bare adds.
        let x = total_set f s.views id v both at in
        let y = total_set f vs other w spent there in
        let z : f both ≡ f v + f w = join_adds f adds v w away away' in omega arith)
        (differ_set vs other spent (differ_set s.views id both r.differ (λ t no. absurd no))
        (λ t no. absurd no))
        (each_set (λ x. Agrees r.history origin r.served r.next x) vs other spent
        (agrees_away [] tt)
        (λ j u ne here. each_set (λ x. Agrees r.history origin r.served r.next x) s.views id both
        (agrees_away (w.members ++ v.members)
        (both_know r.history origin w.members v.members b.members a.members))
        (λ i x ne' here'. r.each i x here') j u here))
        (slot_stays s r (set vs other spent) stays was)
