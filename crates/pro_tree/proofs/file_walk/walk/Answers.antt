use Rattle.std.proofs.Common.{◌≡◌, ◌∙◌, ◌++◌, [], ◌∷◌, List, length, sym, subst, ap, arith, IfErr, false, replicate}
use Rattle.std.proofs.lemmas.List.{length-replicate}
use Rattle.std.proofs.lemmas.Result.{err_from_is_err_and}
use Rattle.a2_device.specs.declared.part.Part.{Part}
use Rattle.a2_device.specs.declared.fault.Fault.{Fault}
use Rattle.a2_device.specs.declared.fault.WalkError.TheVariants.{Fault as AFault}
use Rattle.pro_tree.specs.Reach.{pro_root}
use Rattle.pro_tree.specs.Parts.{FileFaultAt}
use Rattle.pro_tree.specs.Walk.{IsRefusedAt, parts_named}
use Rattle.a2_device.specs.Table.{IsTable}
use Rattle.a2_device.proofs.Tables.{all_within, empty_table}
use Rattle.pro_tree.proofs.Ends.{tame_some, key_refused, at_part, at_parts, at_none}
use Rattle.pro_tree.proofs.file_walk.walk.Goals as goal
use Rattle.pro_tree.proofs.file_walk.walk.Goals.{in-Some+in_ok-take_below, in_default}

pub returns-in_err-part-clause-refused : goal.returns-in_err-part-clause-refused
returns-in_err-part-clause-refused g c = λ honest.
    let start = g.D.Device.state c.args.device.now in
    let whole = g.met.D.Device.whole c.args.device.now honest in
    let link = c.root-first.ensures ∙ ap (λ p. pro_root p c.args.file c.args.storage c.args.key) (c.places-places.ensures ∙ sym whole.all) in
    let given = err_from_is_err_and c.from_residual-in_err-part.result c.from_residual-in_err-part.ensures.1 in
    subst (λ r. IfErr r (λ e. (fault : Fault) → e ≡ AFault fault → FileFaultAt start.store c.args.file c.args.storage c.args.key c.args.entry fault)) (sym given.1)
    (λ fault same.
    let gives = given.2 in
    let mine : c.in_err-part.field-0.0 ≡ AFault fault = cc in
    key_refused start.store c.args.file c.args.storage c.args.key c.args.entry (replicate c.places-places.result false) (empty_table c.places-places.result) fault
    (subst (λ l. IsRefusedAt (replicate c.places-places.result false) c.args.entry l fault) link
    (subst (λ met. IsRefusedAt met c.args.entry c.root-first.result fault) c.in_ok-found.ensures.met (c.in_err-part.ensures.refused fault mine))))

pub returns-in_err-take_below-clause-refused : goal.returns-in_err-take_below-clause-refused
returns-in_err-take_below-clause-refused g c = λ honest.
    let start = g.D.Device.state c.args.device.now in
    let whole = g.met.D.Device.whole c.args.device.now honest in
    let part = c.in-Some.part in
    let first = c.root-first.result in
    let link = c.root-first.ensures ∙ ap (λ p. pro_root p c.args.file c.args.storage c.args.key) (c.places-places.ensures ∙ sym whole.all) in
    let to = tame_some first part (sym c.in_ok-part.ensures.named ∙ c.in-Some.is) in
    let parts : c.follow.new.self.parts.items ≡ part ∷ [] =
    c.in_ok-part.ensures.parts ∙ ap (λ (ps : List Part). ps ++ parts_named first) c.in_ok-found.ensures.parts ∙ ap parts_named to in
    let table = c.in_ok-part.ensures.table (subst (λ met. IsTable met c.in_ok-found.found.parts.items) (sym c.in_ok-found.ensures.met)
    (subst (λ (ps : List Part). IsTable (replicate c.places-places.result false) ps) (sym c.in_ok-found.ensures.parts) (empty_table c.places-places.result))) in
    let given = err_from_is_err_and c.from_residual-in_err-take_below.result c.from_residual-in_err-take_below.ensures.1 in
    subst (λ r. IfErr r (λ e. (fault : Fault) → e ≡ AFault fault → FileFaultAt start.store c.args.file c.args.storage c.args.key c.args.entry fault)) (sym given.1)
    (λ fault same.
    let gives = given.2 in
    let mine : c.in_err-take_below.field-0.0 ≡ AFault fault = cc in
    c.in_err-take_below.ensures.refused c.args.file c.args.storage c.args.key c.args.entry honest
    (at_part start.store c.args.file c.args.storage c.args.key part c.follow.new.self.met.items c.follow.new.self.parts.items parts (sym link ∙ to) table) fault mine)

pub returns-clause-parts : goal.returns-clause-parts
returns-clause-parts g c = λ honest.
    let start = g.D.Device.state c.args.device.now in
    let whole = g.met.D.Device.whole c.args.device.now honest in
    let first = c.root-first.result in
    let link = c.root-first.ensures ∙ ap (λ p. pro_root p c.args.file c.args.storage c.args.key) (c.places-places.ensures ∙ sym whole.all) in
    let start_parts : c.follow.new.self.parts.items ≡ parts_named first =
    c.in_ok-part.ensures.parts ∙ ap (λ (ps : List Part). ps ++ parts_named first) c.in_ok-found.ensures.parts in
    elim c.match-branch-3.branch [
      | in-Some+in_ok-take_below w ↦
          let to = tame_some first w.in-Some.part (sym c.in_ok-part.ensures.named ∙ w.in-Some.is) in
          rw w.found-is
          ((at_parts start.store c.args.file c.args.storage c.args.key first w.in-Some.part c.follow.new.self.parts.items w.take_below.new.self.parts.items
          link c.in_ok-part.ensures.tame to start_parts (w.in_ok-take_below.ensures.taken honest)).0)
      | in_default w ↦
          rw w.found-is
          ((at_none start.store c.args.file c.args.storage c.args.key first c.follow.new.self.parts.items link c.in_ok-part.ensures.tame
          (sym c.in_ok-part.ensures.named ∙ w.in_default.is) start_parts).0)
    ]

pub returns-clause-tame : goal.returns-clause-tame
returns-clause-tame g c = λ honest.
    let start = g.D.Device.state c.args.device.now in
    let whole = g.met.D.Device.whole c.args.device.now honest in
    let first = c.root-first.result in
    let link = c.root-first.ensures ∙ ap (λ p. pro_root p c.args.file c.args.storage c.args.key) (c.places-places.ensures ∙ sym whole.all) in
    let start_parts : c.follow.new.self.parts.items ≡ parts_named first =
    c.in_ok-part.ensures.parts ∙ ap (λ (ps : List Part). ps ++ parts_named first) c.in_ok-found.ensures.parts in
    elim c.match-branch-3.branch [
      | in-Some+in_ok-take_below w ↦
          let to = tame_some first w.in-Some.part (sym c.in_ok-part.ensures.named ∙ w.in-Some.is) in
          (at_parts start.store c.args.file c.args.storage c.args.key first w.in-Some.part c.follow.new.self.parts.items w.take_below.new.self.parts.items
          link c.in_ok-part.ensures.tame to start_parts (w.in_ok-take_below.ensures.taken honest)).1
      | in_default w ↦
          (at_none start.store c.args.file c.args.storage c.args.key first c.follow.new.self.parts.items link c.in_ok-part.ensures.tame
          (sym c.in_ok-part.ensures.named ∙ w.in_default.is) start_parts).1
    ]

pub returns-clause-within : goal.returns-clause-within
returns-clause-within g c =
    let table = c.in_ok-part.ensures.table (subst (λ met. IsTable met c.in_ok-found.found.parts.items) (sym c.in_ok-found.ensures.met)
    (subst (λ (ps : List Part). IsTable (replicate c.places-places.result false) ps) (sym c.in_ok-found.ensures.parts) (empty_table c.places-places.result))) in
    let size : length c.follow.new.self.met.items ≡ c.places-places.result =
    c.follow.ensures.size ∙ ap (λ met. length met) c.in_ok-found.ensures.met ∙ length-replicate c.places-places.result false in
    elim c.match-branch-3.branch [
      | in-Some+in_ok-take_below w ↦
          rw w.found-is
          (λ k d inside. omega (
            arith,
            all_within w.take_below.new.self.met.items w.take_below.new.self.parts.items (w.in_ok-take_below.ensures.table table) k d inside,
            w.take_below.ensures.size,
            size,
            c.places-places.ensures,
          ))
      | in_default w ↦
          rw w.found-is
          (λ k d inside. omega (
            arith,
            all_within c.follow.new.self.met.items c.follow.new.self.parts.items table k d inside,
            size,
            c.places-places.ensures,
          ))
    ]
