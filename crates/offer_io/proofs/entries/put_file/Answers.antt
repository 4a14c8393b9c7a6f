use Rattle.std.proofs.Common.{◌≡◌, None, Some, rules}
use Rattle.std.specs.List.{position}
use Rattle.offer_io.specs.Entries.{is_named}
use Rattle.offer_io.proofs.EntryLemmas.{absent}
use Rattle.offer_io.proofs.PutLemmas.{put_written, places_written, put_by_adding}
use Rattle.offer_io.proofs.entries.put_file.Goals as goal

pub add_file-requires : goal.add_file-requires
add_file-requires c =
    let at : position (is_named c.args.name.now) c.args.files.now.items ≡ None = search rules in
    absent c.args.files.now.items c.args.name.now at

pub returns-in-Some : goal.returns-in-Some
returns-in-Some c =
    let at : position (is_named c.args.name.now) c.args.files.now.items ≡ Some c.in-Some.place = search rules in
    let same : c.in_ok-content.content.items ≡ c.args.content.now = search rules in
    let written = rw same at c.write_at.ensures in
    record {
      places = places_written _ _ c.in-Some.place c.args.name.now _ at written;
      ok = put_written _ _ c.in-Some.place c.args.name.now _ at written;
      err = tt;
    }

pub returns-in-None : goal.returns-in-None
returns-in-None c =
    let at : position (is_named c.args.name.now) c.args.files.now.items ≡ None = search rules in
    let same : c.in_ok-content.content.items ≡ c.args.content.now = search rules in
    let added = rw same at c.add_file.ensures.ok in
    let none = absent c.args.files.now.items c.args.name.now at in
    let p = put_by_adding c.add_file.result c.args.files.now.items c.add_file.new.files.items c.args.name.now c.args.content.now none added c.add_file.ensures.err in
    record { places = p.0; ok = p.1; err = c.add_file.ensures.err }
