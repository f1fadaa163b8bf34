-- Everything that a worked example computes with: a theorem that says `unfolding computing` sees through all of it.
-- Written by tools/computing.py. Assumes nothing.
use Rattle.std.specs.Prelude.{ℕ}
use Rattle.std.specs.Float.Ieee as Ieee
use Rattle.whole.specs.Turns as Turns
use Rattle.whole.specs.Lists as Lists
use Rattle.whole.specs.Rounding as Rounding
use Rattle.whole.specs.Mixing as Mixing
use Rattle.num_cosine.specs.Quarter as Quarter
use Rattle.num_cosine.specs.Cosine as Cosine
use Rattle.paper.specs.Rows as Rows
use Rattle.paper.specs.Conductance as Conductance
use Rattle.paper.specs.Faults as Faults
use Rattle.paper.specs.Text as Text
use Rattle.paper.specs.Network as Network
use Rattle.paper.specs.Reading as Reading
use Rattle.paper.specs.Spread as Spread
use Rattle.paper.specs.Areas as Areas
use Rattle.paper.specs.Sources as Sources
use Rattle.paper.specs.Where as Where
use Rattle.paper.specs.Latch as Latch
use Rattle.paper.specs.Legs as Legs
use Rattle.paper.specs.Records as Records
use Rattle.paper.specs.Floating as Floating
use Rattle.paper.specs.Elimination as Elimination
use Rattle.paper.specs.Doubles as Doubles
use Rattle.paper.specs.Solve as Solve
use Rattle.paper.specs.Advance as Advance
use Rattle.paper.specs.Resetting as Resetting
use Rattle.paper.specs.Looking as Looking
use Rattle.paper.specs.Listing as Listing
use Rattle.paper.specs.Pieces as Pieces
use Rattle.paper.specs.Writing as Writing

unfoldable pub computing : ℕ
unfolding Turns.run Turns.turns Turns.downs Lists.between Lists.up_to Lists.same Lists.same_words Lists.same_bytes Lists.lead Lists.final Lists.filled Lists.every Lists.any Lists.count Lists.keep Lists.sum Lists.total Lists.fold Lists.numbers Lists.first Lists.within Rounding.nearest Mixing.floor_quot Mixing.mixed Quarter.quarter Quarter.falls Quarter.doubles Cosine.half Cosine.cosine Rows.bytes Rows.kinds Rows.word_of Rows.fields_of Rows.branch_kind Rows.source_kind Rows.fixing_kind Conductance.of_ohms Conductance.of_henries Conductance.of_farads Conductance.conductance Faults.outside Faults.node_fault Faults.value_fault Faults.travel_fault Faults.fixes Faults.double_fault Faults.depth Faults.slots Faults.full_fault Faults.line_fault Faults.row_fault Text.split Text.digit Text.decimal Text.negative Text.spelt Text.all_spelt Text.decimal_of Text.number_of Text.place_of Text.line_kind Text.formed Text.numbers_of Text.row_of Network.laid Network.network_of Network.row_of_words Network.rows_of Network.table_of Network.sound Network.replayed Network.passes Network.is_network Reading.fault_of Reading.line_read Reading.closed Reading.lines_of Reading.faulty Reading.read_of Spread.joined Spread.round Spread.spread Areas.named Areas.node_count Areas.joins Areas.lowest Areas.area_numbers Areas.net_on Areas.net_of Areas.area_count Areas.fixed Areas.nodes_of Areas.free_of Areas.branch_number Sources.risen Sources.phase Sources.index Sources.swung Sources.source Sources.held Sources.injected Where.offset Where.slot_count Latch.crosses Latch.may_part Latch.parts Latch.new_latch Latch.holds Latch.latch_formed Legs.sent_at Legs.received Legs.sent_to Legs.heard_by Legs.heard Legs.is_open Legs.conducts Legs.line_end Legs.line_legs Legs.plain_legs Legs.legs_by Legs.legs_of Legs.both_legs Legs.through Legs.current Legs.echo Legs.passed_on Records.outdone Records.new_peak Records.new_peak_step Records.sections Records.spot_in Records.end_of Records.owner_of Records.next_of Records.ends Records.near Records.peak_formed Records.peaked Records.latched Records.records_formed Records.store_formed Records.well_formed Floating.marks Floating.reached Floating.floating Elimination.line_less Elimination.row_less Elimination.all_less Elimination.eliminated Elimination.rest Elimination.row_solved Elimination.solved Elimination.voltages Doubles.double Doubles.in_range Doubles.whole_of Doubles.nearest_of Solve.leaves Solve.leads Solve.entry Solve.right_side Solve.matrix_row Solve.equation Solve.system Solve.proposed Solve.out_of_range Solve.settled Solve.imbalance Solve.unbalanced Solve.beyond Solve.first_beyond Solve.still_of Solve.balance_step Solve.range_step Solve.solved_step Solve.settling Solve.history_step Solve.solve Advance.waits_for Advance.first_late Advance.put_if Advance.renewed Advance.new_records Advance.put_sent Advance.new_store Advance.written Advance.take_step Advance.ready Advance.on_next Advance.on_net Advance.fits Advance.advance_of Resetting.fresh Resetting.reset_of Looking.look_net Looking.look_of Listing.digits Listing.shown_nat Listing.shown Listing.shown_all Listing.volt_lines Listing.current_line Listing.current_lines Listing.step_lines Listing.went_on Listing.area_run Listing.listed Listing.step_run Listing.closing Listing.run_of Listing.listing_from Listing.listing Pieces.area_piece Pieces.full_step Pieces.step_piece Pieces.turn_piece Pieces.closing Pieces.steps_taken Pieces.level Pieces.piece_of Pieces.on_level Pieces.list_of Writing.row_line Writing.text_of Writing.write_of Ieee.add Ieee.sub Ieee.mul Ieee.div Ieee.of_int
computing = 0
