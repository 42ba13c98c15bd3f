-- Names to unfold for a computation: `unfolding opened` under a test's signature opens every definition that a run computes with. Nothing else names them all,
-- so that a proof which unfolds one definition keeps what it calls shut.
use Rattle.std.specs.Int.Count.{count_trailing_zeros}
use Rattle.std.specs.Float.Ieee.{span, climb, size, odd, units, round, neg, sum, add, sub, mul, div, lt, eq, le, of_int, of_fields, of_bits, to_bits, is_nan}
use Rattle.laws.specs.Loop.{for_up, run, any_up, sum_up}
use Rattle.laws.specs.Tabulate.{tabulate}
use Rattle.numbers.specs.Root.{isqrt_in, root_units, root}
use Rattle.numbers.specs.Float.{is_finite, abs_f, min_f, max_f, clamp_f}
use Rattle.numbers.specs.Whole.{floor_int, floor_quotient, ceil_count}
use Rattle.exact.specs.Units.{W, size_of}
use Rattle.exact.specs.Corner.{norm, corner_ok, step_units, cross, squared_length, sine_above_third, is_short}
use Rattle.topology.specs.Links.{link_of}
use Rattle.topology.specs.Walk.{prepend, walk_by}
use Rattle.topology.specs.Listing.{add_loop, long_loops}
use Rattle.outline.specs.Outline.{hole_start, hole_at, loop_at, point_at, point_after, any_float, misshapen, loop_refusal, loops_refusal, far_refusal}
use Rattle.outline.specs.Outline.{outline_refusal, point_refusal, query_refusal}
use Rattle.outline.specs.Queries.{ray_crosses, point_in_polygon, contains, squared_distance, foot_of, point_segment_distance, nearer, nearest_in_loop}
use Rattle.outline.specs.Queries.{nearest_segment}
use Rattle.outline_sound.proofs.Examples.{opened_sound}
use Rattle.geometry.specs.Plane.{distance, tangent, area_term, cross2, doubled_area, left_of, point_in_convex, on_segment, opposite, touches, segments_cross}
use Rattle.geometry.specs.Plane.{centroid, convex_ccw}
use Rattle.geometry.specs.Keys.{key_of, spans_kept, ranges_meet, rectangles_meet, candidate_at, is_candidate, near_keys, too_close_at, is_too_close, least_of}
use Rattle.geometry.specs.Keys.{greatest_of, lowest, highest, in_box_at, is_in_box}
use Rattle.field_direction.specs.Direction.{within, counts_sound, grid_sound, record_refusal, weighed, raw_at, scaled, half, direction_of, dot, closer_of}
use Rattle.field_direction.specs.Direction.{nearest_of, nearest_direction, direction_refusal}
use Rattle.field_cross.specs.Grid.{widened, loop_bounds, bounds, grid_count, too_many_nodes, spacing, grid_of, size_refusal, bounds_refusal, sweeps_refusal}
use Rattle.field_cross.specs.Seeds.{grid_point, seed, is_fixed, seed_node, seed_row, seeded}
use Rattle.field_averages.specs.Average.{plus_if, neighbour_sum, neighbour_count, normalised, average}
use Rattle.field_sweeps.specs.Sweeps.{change, set_value, relaxed, sweep_node, sweep_row, sweep, sweeps}
use Rattle.field_cross.specs.Field.{places_refusal, field_refusal, field_of}
use Rattle.front.specs.State.{node_places, quad_places, edge_places, node_in, has_edge, push_node, add_front, remove_front, push_edge, add_edge, push_quad, cleared}
use Rattle.front.specs.Neighbours.{neighbour_of}
use Rattle.front.specs.Sampling.{parts_of, parts, loop_parts, loop_nodes, sampled_count, front_refusal, cut, sample_segment, sample_loop, signed_area}
use Rattle.front.specs.Sampling.{edge_length, longest_edge, ring_of, ring_at, midpoint, split_longest, join_ring, close_loop, boundary_turn, from_boundary}
use Rattle.front.specs.Sampling.{ring_ids, boundary_loops}
use Rattle.front.specs.Place.{add_edges, move_front, place, edges_added, is_full}
use Rattle.paving.specs.Checks.{too_close, node_ok, corner_free, corners_apart, node_inside, edge_crosses, edges_free, quad_ok, quad_fits}
use Rattle.paving.specs.Attempt.{is_reused, corner_at, ideal, corner_c, corner_d, attempt_quad, normal_of, try_toward, try_edge}
use Rattle.paving.specs.Advance.{after_quad, pass_turn, copied, with_snapshot, pass, advance}
use Rattle.paving.specs.Loops.{front_loops}
use Rattle.run_whole.specs.Run.{run_refusal, run_of}
use Rattle.books.specs.Book.{filled, room_for, edges_to, loop_edges, start_book, has, without, comes_off, new_node, side, quad_at, book_quad, book_after}
use Rattle.books.specs.Book.{edges_sumℤ, quad_edges, quads_area, follow}
use Rattle.books.specs.Net.{count_edge, net, quads_edges}

unfoldable pub opened_ieee : Unit {0}
unfolding count_trailing_zeros span climb size odd units round neg sum add sub mul div lt eq le of_int of_fields of_bits to_bits is_nan
opened_ieee = tt

unfoldable pub opened_laws : Unit {0}
unfolding for_up run any_up sum_up
opened_laws = tt

unfoldable pub opened_numbers : Unit {0}
unfolding isqrt_in root_units root is_finite abs_f min_f max_f clamp_f floor_int floor_quotient ceil_count
opened_numbers = tt

unfoldable pub opened_exact : Unit {0}
unfolding W size_of norm corner_ok step_units cross squared_length sine_above_third is_short
opened_exact = tt

unfoldable pub opened_topology : Unit {0}
unfolding link_of prepend walk_by add_loop long_loops
opened_topology = tt

unfoldable pub opened_domain : Unit {0}
unfolding hole_start hole_at loop_at point_at point_after any_float misshapen loop_refusal loops_refusal far_refusal outline_refusal point_refusal query_refusal
    ray_crosses point_in_polygon contains squared_distance foot_of point_segment_distance nearer nearest_in_loop nearest_segment
opened_domain = tt

unfoldable pub opened_geometry : Unit {0}
unfolding distance tangent area_term cross2 doubled_area left_of point_in_convex on_segment opposite touches segments_cross centroid convex_ccw key_of
    spans_kept ranges_meet rectangles_meet candidate_at is_candidate near_keys too_close_at is_too_close least_of greatest_of lowest highest in_box_at is_in_box
opened_geometry = tt

unfoldable pub opened_crossfield : Unit {0}
unfolding widened loop_bounds bounds grid_count too_many_nodes spacing grid_of size_refusal bounds_refusal sweeps_refusal grid_point seed is_fixed set_value
    seed_node seed_row seeded plus_if neighbour_sum neighbour_count normalised average change relaxed sweep_node sweep_row sweep sweeps places_refusal
    field_refusal field_of within counts_sound grid_sound record_refusal weighed raw_at scaled half direction_of dot closer_of nearest_of
    nearest_direction direction_refusal
opened_crossfield = tt

unfoldable pub opened_front : Unit {0}
unfolding node_places quad_places edge_places node_in neighbour_of has_edge push_node add_front remove_front push_edge add_edge push_quad cleared parts_of parts loop_parts
    loop_nodes sampled_count front_refusal cut sample_segment sample_loop signed_area edge_length longest_edge ring_of ring_at midpoint split_longest
    join_ring close_loop boundary_turn from_boundary tabulate ring_ids boundary_loops add_edges move_front place edges_added is_full
opened_front = tt

unfoldable pub opened_paving : Unit {0}
unfolding too_close node_ok corner_free corners_apart node_inside edge_crosses edges_free quad_ok quad_fits is_reused corner_at ideal corner_c corner_d attempt_quad
    normal_of try_toward try_edge after_quad pass_turn copied with_snapshot pass advance front_loops run_refusal run_of
opened_paving = tt

unfoldable pub opened_books : Unit {0}
unfolding filled room_for edges_to loop_edges start_book has without comes_off new_node side quad_at book_quad book_after edges_sumℤ quad_edges quads_area follow
    count_edge net quads_edges
opened_books = tt

unfoldable pub opened : Unit {0}
unfolding opened_ieee opened_laws opened_numbers opened_exact opened_topology opened_domain opened_sound opened_geometry opened_crossfield opened_front opened_paving opened_books
opened = tt
