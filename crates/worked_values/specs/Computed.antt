-- The definitions of times, flows, phases and delays, by one name each, so that a closed theorem computes with them.
use Rattle.std.specs.Int.Count.{count_trailing_zeros}
use Rattle.std.specs.Float.Ieee.{of_int, round, size, span, climb, units, odd, neg, sum, add, sub, mul, div, lt, eq, le, to_bits}
use Rattle.laws.specs.Rounding.{up}
use Rattle.laws.specs.Search.{first_below, first_of}
use Rattle.laws.specs.Sums.{sum_of}
use Rattle.times.specs.Comparison.{below_root, root_below, ratio_ratio, ratio_root, root_ratio, root_after, root_before, root_root, ratio_within}
use Rattle.times.specs.Comparison.{root_within, within}
use Rattle.times.specs.Times.{car_time, car_leaving, longer, stop_leaving, tram_leaving, walk_leaving, leaving, passing, car_reaching}
use Rattle.times.specs.Times.{tram_reaching, counted_reaching, walk_reaching, reaching}
use Rattle.times.specs.Entry.{least_gap, entry}
use Rattle.flows.specs.Needs.{table3, longest_cycle, tram_need, crossing_speed, disturbance, pedestrian_need, island_need, kind_need, need_at}
use Rattle.flows.specs.Saturation.{table1, listed_from, straight_flow, turning_flow, base_flow, gradient_percent, conditions_percent}
use Rattle.flows.specs.Saturation.{turn_divisor, saturation_flow, flow_ratio}
use Rattle.service_level.specs.Delays.{term_a, term_b, delay_of, figures_of, service_of, delay_level, service_level, level_of, outcome, value}
use Rattle.service_level.specs.Delays.{letter}
use Rattle.phase_lengths.specs.Phases.{phase, lost, ratio_sum, lost_time, long_enough, first_length}
use Rattle.phase_greens.specs.Greens.{share, shares, sharing, cars_before, extra, green_at, start_at, first_below_one, gives_greens}

unfoldable pub to_delays : Unit {0}
unfolding of_int round size span climb units odd count_trailing_zeros neg sum add sub mul div lt eq le to_bits
    term_a term_b delay_of figures_of service_of delay_level service_level level_of outcome value letter
to_delays = tt

unfoldable pub to_times : Unit {0}
unfolding first_below first_of below_root root_below ratio_ratio ratio_root root_ratio root_after root_before root_root
    ratio_within root_within within car_time car_leaving longer stop_leaving tram_leaving walk_leaving leaving passing
    car_reaching tram_reaching counted_reaching walk_reaching reaching least_gap entry
to_times = tt

unfoldable pub to_flows : Unit {0}
unfolding up table3 longest_cycle tram_need crossing_speed disturbance pedestrian_need island_need kind_need need_at
    table1 listed_from straight_flow turning_flow base_flow gradient_percent conditions_percent turn_divisor saturation_flow flow_ratio
to_flows = tt

unfoldable pub to_phases : Unit {0}
unfolding first_below first_of sum_of phase lost ratio_sum lost_time long_enough first_length
    share shares sharing cars_before extra green_at start_at first_below_one gives_greens
to_phases = tt
